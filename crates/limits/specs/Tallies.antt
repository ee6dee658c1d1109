-- What a pass has counted and found so far. Assumes nothing.
--     Counted is tally             the tally's counts are those of the items is
--     Tallied sender is tally      it is for the sender, and its places are where the first of them is beyond its limit, and where the first names another sender
use Rattle.std.specs.Prelude.{◌≡◌, ℕ, List, MatchOption}
use Rattle.grammar.specs.Items.{Item}
use Rattle.limits.specs.Records.{records_in}
use Rattle.limits.specs.Limits.{orders_in, NoneBeyond, FirstBeyond, NoneForeign, FirstForeign}
use Rattle.limits.specs.declared.tally.Tally.{Tally}

pub record Counted (is : List Item) (tally : Tally) : Type 0 where
  pub records : tally.found.records ≡ records_in is
  pub orders : tally.orders ≡ orders_in is

pub record Tallied (sender : List ℕ) (is : List Item) (tally : Tally) : Type 0 where
  pub for_sender : tally.sender.now ≡ sender
  pub counted : Counted is tally
  pub beyond : MatchOption tally.found.beyond (NoneBeyond is) (FirstBeyond is)
  pub foreign : MatchOption tally.found.foreign (NoneForeign sender is) (FirstForeign sender is)
