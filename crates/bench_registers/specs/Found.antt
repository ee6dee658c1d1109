-- What look-ups find. Assumes nothing.
--     found_in c ks   how many of the keys ks have an entry in c
use Rattle.std.specs.Prelude.{ℕ, List, count_by, is_some}
use Rattle.register.specs.Contents.{Contents}
use Rattle.register.specs.declared.key.Key.{Key}

abbrev pub found_in : Contents → List Key → ℕ
found_in c ks = count_by (λ k. is_some (c.at k)) ks
