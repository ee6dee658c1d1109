-- Two registers asked the same. Assumes nothing.
--     held t        what both hold
--     Asked t q u   the request q got its one right reply from both, which was counted, and led from t to u
use Rattle.std.specs.Prelude.{◌≡◌}
use Rattle.ordered_register.specs.Meaning.{contents_of}
use Rattle.register.specs.Contents.{Contents}
use Rattle.register.specs.Requests.{Served}
use Rattle.register.specs.declared.requests.Request.{Request}
use Rattle.register.specs.declared.requests.Reply.{Reply}
use Rattle.twin_registers.specs.Tallies.{with_reply}
use Rattle.twin_registers.specs.declared.twins.Twins.{Twins}

abbrev pub held : Twins → Contents
held t = contents_of t.ordered

abbrev pub Asked : Twins → Request → Twins → Type 0
Asked t q u = (r : Reply) × Served (held t) q r (held u) × (u.tally ≡ with_reply t.tally q r)
