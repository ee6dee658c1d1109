-- The samples hold. Assumes nothing.
use Rattle.std.proofs.Common.{refl}
use Rattle.calendar.proofs.Dues.{samples as due_samples}
use Rattle.uploads.proofs.Deciding.{space_in_declaration}
use Rattle.receiving.specs.Samples.{RefillSamples, Samples}

pub refills : RefillSamples
refills = record {
  rising = λ v h. rw (h.times, h.refills_are) refl;
  falling = λ v h. rw (h.times, h.refills_are, h.visit) refl;
  beyond = λ v h. rw (h.times, h.refills_are, h.visit) refl;
}

pub samples : Samples
samples = record {
  due = due_samples;
  refills = refills;
  needs = record { required = refl; barred = refl; barred_too = refl };
  declaration = space_in_declaration;
}
