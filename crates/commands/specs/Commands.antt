-- Commands. Assumes nothing.
--     Told              a command without its loans
--     told_of c         the command c so
--     told r            what comes of reading one so
--     one_number ws     the number that the one word of ws writes
--     kind_in w         the kind that the word w names
--     register_of ws, shape_of ws, lists_of ws, receive_of ws, look_up_of ws
--                       the command with the words ws behind its name
--     named n ws        the command of the name n, if it is one, with the words ws behind it
--     command_of ws     the command of the words ws
--     command_in line   the command that the line writes, or why it writes none
use Rattle.std.specs.Prelude.{ℕ, if◌then◌else◌, List, [], ◌∷◌, Result, Ok, Err, codes}
use Rattle.std.specs.Result.{result_map_both}
use Rattle.std.specs.Str.{bytes_eq}
use Rattle.commands.specs.Numbers.{number_in}
use Rattle.commands.specs.Malformed.{if_ok}
use Rattle.commands.specs.Words.{words_in}
use Rattle.commands.specs.declared.command.Command.{Command}
use Rattle.commands.specs.declared.command.Command.TheVariants.{Register, Shape, Rows, Receive, LookUp}
use Rattle.commands.specs.declared.command.Kind.{Kind}
use Rattle.commands.specs.declared.command.Kind.TheVariants.{Ordered, Scattered}
use Rattle.commands.specs.declared.malformed.Malformed.{Malformed}
use Rattle.commands.specs.declared.malformed.Malformed.TheVariants.{Unknown, Words}

pub data Told : Type 0 where
  register : Kind → ℕ → Told
  shape : Told
  rows : ℕ → Told
  receive : (sender day : List ℕ) (verdict_rows report_rows len : ℕ) → Told
  look_up : (sender identifier : List ℕ) → Told

abbrev pub told_of : Command → Told
told_of (Register kind slots) = register kind slots
told_of Shape = shape
told_of (Rows count) = rows count
told_of (Receive sender day verdict_rows report_rows len) = receive sender.now day.now verdict_rows report_rows len
told_of (LookUp sender identifier) = look_up sender.now identifier.now

abbrev pub told : Result Command Malformed → Result Told Malformed
told = result_map_both told_of (λ e. e)

abbrev pub one_number : List (List ℕ) → Result ℕ Malformed
one_number (n ∷ []) = number_in n
one_number _ = Err Words

abbrev pub kind_in : List ℕ → Result Kind Malformed
kind_in word =
    if bytes_eq word (codes "ordered") then Ok Ordered
    else (if bytes_eq word (codes "scattered") then Ok Scattered
    else Err Unknown)

abbrev pub register_of : List (List ℕ) → Result Told Malformed
register_of [] = Err Words
register_of (kind ∷ ws) = if_ok (kind_in kind) (λ k. if_ok (one_number ws) (λ n. Ok (register k n)))

abbrev pub shape_of : List (List ℕ) → Result Told Malformed
shape_of [] = Ok shape
shape_of _ = Err Words

abbrev pub lists_of : List (List ℕ) → Result Told Malformed
lists_of [] = Err Words
lists_of (kind ∷ ws) =
    if bytes_eq kind (codes "shape") then shape_of ws
    else (if bytes_eq kind (codes "rows") then if_ok (one_number ws) (λ n. Ok (rows n))
    else Err Unknown)

abbrev pub receive_of : List (List ℕ) → Result Told Malformed
receive_of (sender ∷ day ∷ verdict_rows ∷ report_rows ∷ len ∷ []) =
    if_ok (number_in verdict_rows) (λ v. if_ok (number_in report_rows) (λ r. if_ok (number_in len) (λ n.
    Ok (receive sender day v r n))))
receive_of _ = Err Words

abbrev pub look_up_of : List (List ℕ) → Result Told Malformed
look_up_of (sender ∷ identifier ∷ []) = Ok (look_up sender identifier)
look_up_of _ = Err Words

abbrev pub named : List ℕ → List (List ℕ) → Result Told Malformed
named name ws =
    if bytes_eq name (codes "register") then register_of ws
    else (if bytes_eq name (codes "lists") then lists_of ws
    else (if bytes_eq name (codes "receive") then receive_of ws
    else (if bytes_eq name (codes "lookup") then look_up_of ws
    else Err Unknown)))

abbrev pub command_of : List (List ℕ) → Result Told Malformed
command_of [] = Err Words
command_of (name ∷ ws) = named name ws

abbrev pub command_in : List ℕ → Result Told Malformed
command_in line = if_ok (words_in line) command_of
