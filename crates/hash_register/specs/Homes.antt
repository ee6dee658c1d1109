-- Where keys are looked for first. Assumes nothing.
--     homes m      how many homes a table for m keys has: more than twice as many, so that a search is soon over
--     mixed h bs   the hash h with the bytes bs in it
--     home n k     the home of the key k among n: the high half of its hash, modulo n
use Rattle.std.specs.Prelude.{ℕ, ◌+◌, ◌*◌, ◌/◌, ◌%◌, ◌^◌, List, fold}
use Rattle.register.specs.declared.key.Key.{Key}

abbrev pub homes : ℕ → ℕ
homes m = 2 * m + 1

abbrev pub mixed : ℕ → List ℕ → ℕ
mixed = fold (λ h b. ((h + b) % 2 ^ 64 * 18397679294719823053) % 2 ^ 64)

unfoldable pub home : ℕ → Key → ℕ
home n k = (mixed (mixed 0 k.sender) k.identifier / 2 ^ 32) % n
