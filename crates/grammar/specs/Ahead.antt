-- What stands next, told of the bytes that are left. Assumes nothing.
--     white_len w     how many bytes of white space w begins with
--     closes w        whether a / stands second in w, as in a closing tag
use Rattle.std.specs.Prelude.{ℕ, Bool, List, ◌==◌, slice_index}
use Rattle.std.specs.List.{prefix_len}
use Rattle.grammar.specs.Bytes.{white}

abbrev pub white_len : List ℕ → ℕ
white_len w = prefix_len white w

abbrev pub closes : List ℕ → Bool
closes w = slice_index w 1 == 0x2f
