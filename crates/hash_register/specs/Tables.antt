-- The table of a hash register. Assumes nothing.
--     IsTable m c xs          the slots xs, homes m + m of them with m ≤ 65536, hold c keys of at most m, each once and reached from its home
--     table_contents m c xs   what a register with that table holds
use Rattle.std.specs.Prelude.{◌≡◌, ℕ, ◌+◌, ◌≤◌, List, length}
use Rattle.std.specs.List.{IsDistinct}
use Rattle.std.specs.Map.{keys_of, lookup}
use Rattle.register.specs.Contents.{Contents}
use Rattle.register.specs.Keys.{same_key}
use Rattle.hash_register.specs.Homes.{homes}
use Rattle.hash_register.specs.Slots.{Slot, held, IsReached}

pub record IsTable (m c : ℕ) (xs : List Slot) : Type 0 where
  pub distinct : IsDistinct same_key (keys_of (held xs))
  pub reached : IsReached (homes m) xs
  pub counted : c ≡ length (held xs)
  pub within : c ≤ m
  pub small : m ≤ 65536
  pub size : length xs ≡ homes m + m

abbrev pub table_contents : ℕ → ℕ → List Slot → Contents
table_contents m c xs = record { at = λ k. lookup (same_key k) (held xs); count = c; most = m }
