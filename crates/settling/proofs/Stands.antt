-- What stands under a key, told by going through the filings. Assumes nothing.
--     standing k qs   the entry that stands under k after the filings qs, if each visit is put
use Rattle.std.proofs.Common.{◌≡◌, Bool, true, false, cond, ◌&&◌, ◌||◌, List, [], ◌∷◌, Option, Some, None, refl, sym, ap, ◌∙◌}
use Rattle.std.proofs.lemmas.Bool.{false≢true, or_parts}
use Rattle.std.proofs.lemmas.List.Sums.{fold-append}
use Rattle.std.proofs.lemmas.Option.{none-some, same_Some}
use Rattle.std.specs.List.{list_any, fold}
use Rattle.std.specs.Option.{option_map}
use Rattle.register.specs.Identifiers.{is_placeholder}
use Rattle.register.specs.Keys.{same_key}
use Rattle.register.specs.declared.entry.Entry.{Entry}
use Rattle.register.specs.declared.key.Key.{Key}
use Rattle.register.proofs.Sameness.{same_itself, is_same}
use Rattle.filings.specs.declared.filing.Deed.{Deed}
use Rattle.filings.specs.declared.filing.Deed.TheVariants.{Visit, Cancel, Delete}
use Rattle.filings.specs.declared.filing.Filing.{Filing}
use Rattle.settling.specs.Settled.{marked}
use Rattle.settling.specs.Standing.{is_cancellation, is_end, cancels, ends, Standing}
use Rattle.settling.proofs.Deeds.{left, after}

abbrev pub standing : Key → List Filing → Option Entry
standing k qs = fold (after k) None qs

-- the mark is set if b
abbrev marked_if : Bool → Option Entry → Option Entry
marked_if b o = cond b (option_map (marked true) o) o

marked_again : (b : Bool) (o : Option Entry) → marked_if b (option_map (marked true) o) ≡ option_map (marked true) o
marked_again true None = refl
marked_again true (Some e) = refl
marked_again false o = refl

marked_visit : (b : Bool) (e : Entry) → marked_if b (Some (marked false e)) ≡ Some (marked b e)
marked_visit true e = refl
marked_visit false e = refl

unmarked : (b : Bool) → marked_if b None ≡ None
unmarked true = refl
unmarked false = refl

module _ (k : Key) where
  -- where nothing ends what stands
  no_end : (qs : List Filing) (o : Option Entry) → list_any (ends k) qs ≡ false → fold (after k) o qs ≡ marked_if (list_any (cancels k) qs) o
  no_end [] o h = refl
  no_end (q ∷ qs) o h = let p = or_parts _ _ h in go (λ o. no_end qs o p.1) (same_key q.key k) q.deed p.0
    where
      go : ((o : Option Entry) → fold (after k) o qs ≡ marked_if (list_any (cancels k) qs) o) → (b : Bool) (d : Deed) → (b && is_end d) ≡ false
          → fold (after k) (cond b (left true d o) o) qs ≡ marked_if (b && is_cancellation d || list_any (cancels k) qs) o
      go rest false d e = rest o
      go rest true (Cancel p) e = rest (option_map (marked true) o) ∙ marked_again (list_any (cancels k) qs) o
      go rest true (Visit x) e = absurd (false≢true (sym e))
      go rest true (Delete p) e = absurd (false≢true (sym e))

  nothing : (qs : List Filing) → list_any (ends k) qs ≡ false → standing k qs ≡ None
  nothing qs h = no_end qs None h ∙ unmarked (list_any (cancels k) qs)

  -- after the last visit of k
  after_visit : (e : Entry) (later : List Filing) → list_any (ends k) later ≡ false → fold (after k) (Some (marked false e)) later ≡ Some (marked (list_any (cancels k) later) e)
  after_visit e later h = no_end later (Some (marked false e)) h ∙ marked_visit (list_any (cancels k) later) e

  pub standing_from : (qs : List Filing) (e : Entry) → Standing qs k e → standing k qs ≡ Some e
  standing_from qs e s =
      ap (standing k) s.filed
      ∙ fold-append (after k) None s.earlier (record { key = k; deed = Visit s.visit } ∷ s.later)
      ∙ ap (λ b. fold (after k) (cond b (Some (marked false s.visit)) (standing k s.earlier)) s.later) (same_itself k)
      ∙ after_visit s.visit s.later s.last
      ∙ ap Some (sym s.entry)

  module _ (real : is_placeholder k.identifier ≡ false) where
    before : (q : Filing) (qs : List Filing) (e : Entry) → Standing qs k e → Standing (q ∷ qs) k e
    before q qs e s = record { is_true = s.is_true; earlier = q ∷ s.earlier; visit = s.visit; later = s.later; filed = ap (λ l. q ∷ l) s.filed; last = s.last; entry = s.entry }

    -- the last filing that ends what stood before
    last_end : (qs : List Filing) (o : Option Entry) (e : Entry) → list_any (ends k) qs ≡ true → fold (after k) o qs ≡ Some e → Standing qs k e
    last_end [] o e h f = absurd (false≢true h)
    last_end (q ∷ qs) o e h f = go (λ o. last_end qs o e) (list_any (ends k) qs) refl (same_key q.key k) q.deed refl refl h f
      where
        go : ((o : Option Entry) → list_any (ends k) qs ≡ true → fold (after k) o qs ≡ Some e → Standing qs k e)
            → (more : Bool) → list_any (ends k) qs ≡ more → (b : Bool) (d : Deed) → same_key q.key k ≡ b → q.deed ≡ d → (b && is_end d || more) ≡ true
            → fold (after k) (cond b (left true d o) o) qs ≡ Some e → Standing (q ∷ qs) k e
        go rest true m b d s t h f = before q qs e (rest (cond b (left true d o) o) m f)
        go rest false m true (Visit x) s t h f = record {
          is_true = real;
          earlier = [];
          visit = x;
          later = qs;
          filed = λ i. record { key = is_same q.key k s i; deed = t i } ∷ qs;
          last = m;
          entry = same_Some e _ (sym f ∙ after_visit x qs m);
        }
        go rest false m true (Delete p) s t h f = absurd (none-some e (sym (nothing qs m) ∙ f))
        go rest false m true (Cancel p) s t h f = absurd (false≢true h)
        go rest false m false d s t h f = absurd (false≢true h)

    pub from_standing : (qs : List Filing) (e : Entry) → standing k qs ≡ Some e → Standing qs k e
    from_standing qs e f = go (list_any (ends k) qs) refl
      where
        go : (b : Bool) → list_any (ends k) qs ≡ b → Standing qs k e
        go true m = last_end qs None e m f
        go false m = absurd (none-some e (sym (nothing qs m) ∙ f))
