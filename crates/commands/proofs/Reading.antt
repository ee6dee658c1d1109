-- A command is read just from the lines that write it. Assumes nothing.
use Rattle.std.proofs.Common.{◌≡◌, ℕ, Bool, true, false, cond, List, [], ◌∷◌, Result, Ok, Err, codes, refl, sym, ap}
use Rattle.std.proofs.lemmas.Slice.Eq.{bytes_eq-Decides}
use Rattle.std.specs.Str.{bytes_eq}
use Rattle.commands.specs.Commands.{Told, register, rows, receive, one_number, register_of, shape_of, lists_of, receive_of, look_up_of, command_of, command_in}
use Rattle.commands.specs.Lines.{Reads}
use Rattle.commands.specs.Malformed.{if_ok}
use Rattle.commands.specs.Numbers.{is_numeral, number_in, value_of}
use Rattle.commands.specs.Written.{Writes, ordered, scattered, by_shape, by_rows, upload, key}
use Rattle.commands.specs.declared.command.Kind.{Kind}
use Rattle.commands.specs.declared.command.Kind.TheVariants.{Ordered, Scattered}
use Rattle.commands.specs.declared.malformed.Malformed.{Malformed}
use Rattle.commands.specs.declared.malformed.Malformed.TheVariants.{Unknown, Number}
use Rattle.commands.proofs.Joining.{reads_lines}

number_from : {X : Type 0} (b : Bool) (n : ℕ) (f : ℕ → Result X Malformed) (c : X) → if_ok (cond b (Ok n) (Err Number)) f ≡ Ok c → (b ≡ true) × (f n ≡ Ok c)
number_from true n f c h = (refl, h)
number_from false n f c h = absurd (cc)

-- a number that is read is written in digits
pub numeral : {X : Type 0} (w : List ℕ) (f : ℕ → Result X Malformed) (c : X) → if_ok (number_in w) f ≡ Ok c → (is_numeral w ≡ true) × (f (value_of w) ≡ Ok c)
numeral w f c h = number_from (is_numeral w) (value_of w) f c h

one_numeral : (ws : List (List ℕ)) (f : ℕ → Result Told Malformed) (c : Told) → if_ok (one_number ws) f ≡ Ok c
    → (w : List ℕ) × (ws ≡ w ∷ []) × (is_numeral w ≡ true) × (f (value_of w) ≡ Ok c)
one_numeral [] f c h = absurd (cc)
one_numeral (w ∷ []) f c h = let p = numeral w f c h in (w, refl, p.0, p.1)
one_numeral (w ∷ v ∷ ws) f c h = absurd (cc)

abbrev ok : Told → Result Told Malformed
ok c = Ok c

told_inside : {x y : Told} → ok x ≡ ok y → x ≡ y
told_inside h = cc

spelled : (w text : List ℕ) → bytes_eq w text ≡ true → w ≡ text
spelled w text h = (bytes_eq-Decides w text).0 h

along : (c d : Told) (vs ws : List (List ℕ)) → c ≡ d → vs ≡ ws → Writes c vs → Writes d ws
along c d vs ws e q h = rw (← e, ← q) h

begins : (k : Kind) (name : List ℕ) (ws : List (List ℕ)) (c : Told)
    → ((w : List ℕ) → is_numeral w ≡ true → Writes (register k (value_of w)) (codes "register" ∷ name ∷ w ∷ []))
    → if_ok (one_number ws) (λ n. Ok (register k n)) ≡ Ok c → Writes c (codes "register" ∷ name ∷ ws)
begins k name ws c made h =
    let p = one_numeral ws (λ n. Ok (register k n)) c h in
    along _ _ _ _ (told_inside p.3) (ap (λ v. codes "register" ∷ name ∷ v) (sym p.1)) (made p.0 p.2)

kind_from : (a b : Bool) (kind : List ℕ) (ws : List (List ℕ)) (c : Told) → (a ≡ true → kind ≡ codes "ordered") → (b ≡ true → kind ≡ codes "scattered")
    → if_ok (cond a (Ok Ordered) (cond b (Ok Scattered) (Err Unknown))) (λ k. if_ok (one_number ws) (λ n. Ok (register k n))) ≡ Ok c
    → Writes c (codes "register" ∷ kind ∷ ws)
kind_from true b kind ws c is_a is_b h = rw (is_a refl) (begins Ordered (codes "ordered") ws c (λ w d. ordered d) h)
kind_from false true kind ws c is_a is_b h = rw (is_b refl) (begins Scattered (codes "scattered") ws c (λ w d. scattered d) h)
kind_from false false kind ws c is_a is_b h = absurd (cc)

register_in : (ws : List (List ℕ)) (c : Told) → register_of ws ≡ Ok c → Writes c (codes "register" ∷ ws)
register_in [] c h = absurd (cc)
register_in (kind ∷ ws) c h =
    kind_from (bytes_eq kind (codes "ordered")) (bytes_eq kind (codes "scattered")) kind ws c (spelled kind (codes "ordered")) (spelled kind (codes "scattered")) h

shape_in : (ws : List (List ℕ)) (c : Told) → shape_of ws ≡ Ok c → Writes c (codes "lists" ∷ codes "shape" ∷ ws)
shape_in [] c h = along _ _ _ _ (told_inside h) refl by_shape
shape_in (w ∷ ws) c h = absurd (cc)

rows_in : (ws : List (List ℕ)) (c : Told) → if_ok (one_number ws) (λ n. Ok (rows n)) ≡ Ok c → Writes c (codes "lists" ∷ codes "rows" ∷ ws)
rows_in ws c h =
    let p = one_numeral ws (λ n. Ok (rows n)) c h in
    along _ _ _ _ (told_inside p.3) (ap (λ v. codes "lists" ∷ codes "rows" ∷ v) (sym p.1)) (by_rows p.2)

lists_from : (a b : Bool) (kind : List ℕ) (ws : List (List ℕ)) (c : Told) → (a ≡ true → kind ≡ codes "shape") → (b ≡ true → kind ≡ codes "rows")
    → cond a (shape_of ws) (cond b (if_ok (one_number ws) (λ n. Ok (rows n))) (Err Unknown)) ≡ Ok c → Writes c (codes "lists" ∷ kind ∷ ws)
lists_from true b kind ws c is_a is_b h = rw (is_a refl) (shape_in ws c h)
lists_from false true kind ws c is_a is_b h = rw (is_b refl) (rows_in ws c h)
lists_from false false kind ws c is_a is_b h = absurd (cc)

lists_in : (ws : List (List ℕ)) (c : Told) → lists_of ws ≡ Ok c → Writes c (codes "lists" ∷ ws)
lists_in [] c h = absurd (cc)
lists_in (kind ∷ ws) c h =
    lists_from (bytes_eq kind (codes "shape")) (bytes_eq kind (codes "rows")) kind ws c (spelled kind (codes "shape")) (spelled kind (codes "rows")) h

receive_in : (ws : List (List ℕ)) (c : Told) → receive_of ws ≡ Ok c → Writes c (codes "receive" ∷ ws)
receive_in [] c h = absurd (cc)
receive_in (s ∷ []) c h = absurd (cc)
receive_in (s ∷ d ∷ []) c h = absurd (cc)
receive_in (s ∷ d ∷ v ∷ []) c h = absurd (cc)
receive_in (s ∷ d ∷ v ∷ r ∷ []) c h = absurd (cc)
receive_in (s ∷ d ∷ v ∷ r ∷ n ∷ []) c h =
    let p = numeral v (λ x. if_ok (number_in r) (λ y. if_ok (number_in n) (λ z. Ok (receive s d x y z)))) c h in
    let q = numeral r (λ y. if_ok (number_in n) (λ z. Ok (receive s d (value_of v) y z))) c p.1 in
    let t = numeral n (λ z. Ok (receive s d (value_of v) (value_of r) z)) c q.1 in
    along _ _ _ _ (told_inside t.1) refl (upload p.0 q.0 t.0)
receive_in (s ∷ d ∷ v ∷ r ∷ n ∷ w ∷ ws) c h = absurd (cc)

look_up_in : (ws : List (List ℕ)) (c : Told) → look_up_of ws ≡ Ok c → Writes c (codes "lookup" ∷ ws)
look_up_in [] c h = absurd (cc)
look_up_in (s ∷ []) c h = absurd (cc)
look_up_in (s ∷ i ∷ []) c h = along _ _ _ _ (told_inside h) refl key
look_up_in (s ∷ i ∷ w ∷ ws) c h = absurd (cc)

named_from : (a b d e : Bool) (name : List ℕ) (ws : List (List ℕ)) (c : Told) → (a ≡ true → name ≡ codes "register") → (b ≡ true → name ≡ codes "lists")
    → (d ≡ true → name ≡ codes "receive") → (e ≡ true → name ≡ codes "lookup")
    → cond a (register_of ws) (cond b (lists_of ws) (cond d (receive_of ws) (cond e (look_up_of ws) (Err Unknown)))) ≡ Ok c → Writes c (name ∷ ws)
named_from true b d e name ws c is_a is_b is_d is_e h = rw (is_a refl) (register_in ws c h)
named_from false true d e name ws c is_a is_b is_d is_e h = rw (is_b refl) (lists_in ws c h)
named_from false false true e name ws c is_a is_b is_d is_e h = rw (is_d refl) (receive_in ws c h)
named_from false false false true name ws c is_a is_b is_d is_e h = rw (is_e refl) (look_up_in ws c h)
named_from false false false false name ws c is_a is_b is_d is_e h = absurd (cc)

written : (ws : List (List ℕ)) (c : Told) → command_of ws ≡ Ok c → Writes c ws
written [] c h = absurd (cc)
written (name ∷ ws) c h =
    named_from (bytes_eq name (codes "register")) (bytes_eq name (codes "lists")) (bytes_eq name (codes "receive")) (bytes_eq name (codes "lookup"))
    name ws c (spelled name (codes "register")) (spelled name (codes "lists")) (spelled name (codes "receive")) (spelled name (codes "lookup")) h

read_words : (c : Told) (ws : List (List ℕ)) → Writes c ws → command_of ws ≡ Ok c
read_words _ _ (ordered d) = rw d refl
read_words _ _ (scattered d) = rw d refl
read_words _ _ by_shape = refl
read_words _ _ (by_rows d) = rw d refl
read_words _ _ (upload v r n) = rw (v, r, n) refl
read_words _ _ key = refl

pub reads : (line : List ℕ) (r : Result Told Malformed) → r ≡ command_in line → Reads Writes line r
reads line r h = reads_lines (record { written = written; back = read_words; none = refl }) line r h
