-- Dice. Assumes nothing.
--     after_roll d   the dice d after a roll
--     face d n       which of n faces lies up on the dice d: 0, if there are none
use Rattle.std.specs.Prelude.{ℕ, ◌+◌, ◌*◌, ◌/◌, ◌%◌, ◌^◌, max}
use Rattle.trials.specs.declared.dice.Dice.{Dice}

abbrev pub after_roll : Dice → Dice
after_roll d = record { state = (d.state * 6364136223846793005 + 1442695040888963407) % 2 ^ 64 }

abbrev pub face : Dice → ℕ → ℕ
face d n = (d.state / 2 ^ 32) % max n 1
