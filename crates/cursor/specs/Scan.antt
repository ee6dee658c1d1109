-- How far a value reaches. Assumes nothing.
--     value_len w     how many bytes of w stand before its first <
use Rattle.std.specs.Prelude.{ℕ, List, not, ◌==◌}
use Rattle.std.specs.List.{prefix_len}

abbrev pub value_len : List ℕ → ℕ
value_len w = prefix_len (λ b. not (b == 0x3c)) w
