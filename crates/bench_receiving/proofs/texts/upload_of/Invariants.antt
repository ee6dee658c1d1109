use Rattle.std.proofs.Common.{◌≡◌, ◌++◌, take}
use Rattle.std.specs.List.{flat_map}
use Rattle.bench_receiving.specs.Texts.{text_of, upload_front}
use Rattle.bench_receiving.proofs.texts.upload_of.Given as goal

abbrev pub invariant-loop-key : goal.invariant-loop-key
invariant-loop-key l = l.bytes.items ≡ upload_front ++ flat_map (λ k. text_of l.form k.identifier) (take l.key-index l.keys)
