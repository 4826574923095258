-- The table of a segment, from the tables of its parts. Assumes nothing.
use Rattle.std.proofs.Common.{◌≡◌, ℕ, suc, ◌<◌, List, ◌∷◌, [], ◌++◌, length, cond, eqb, get_or, vec_items, Result, sym, refl, ap, ◌∙◌, subst, ap₂, ⊎_elim, arith}
use Rattle.rule.specs.declared.leaf.Test.{Test}
use Rattle.rule.specs.Tree.{Segment, single, either, chain, star}
use Rattle.scale.specs.Laws.{Algebra}
use Rattle.evaluator.specs.declared.table.Table.{Table}
use Rattle.evaluator.specs.Parts.{single_match, either_match, chain_match, star_match, ending, either_open, chain_open, star_open}
use Rattle.semantics.specs.Positions.{repeats, matches, open_at}
use Rattle.evaluator.specs.Segments.{matched, opened, Tabled}
use Rattle.evaluator.specs.Tables.{entry, cell, Rowed, Gridded}
use Rattle.semantics.specs.Folds.{join_over}
use Rattle.semantics.proofs.Bounds.{join_over_same}
use Rattle.evaluator.specs.declared.grid.Grid.{Grid}
use Rattle.evaluator.proofs.Parts.{Alike, Same, either_match_same, chain_match_same, star_match_same, ending_same, either_open_same, chain_open_same, star_open_same, repeats_same}
use Rattle.std.proofs.lemmas.List.{length_push, get_or_push, get_or_append_left}
use Rattle.std.specs.Prelude.{IfOk}
use Rattle.std.proofs.lemmas.Result.{IfOk-weaker}
use Rattle.std.proofs.lemmas.Bool.{cases_eq, eq-eqb, ne_eqb, cond-true, cond-false}

module _ {S : Type 0} (A : Algebra S) where
  -- a row, and best after it
  pub ended : (n : ℕ) (o : ℕ → S) (row more : List S) (x : S) → Rowed A n o row → more ≡ row ++ x ∷ [] → x ≡ A.best → Rowed A (suc n) (ending A n o) more
  ended n o row more x h e is = record {
    sized = ap length e ∙ length_push row x ∙ omega (arith, h.sized);
    reads = λ k l. ⊎_elim (last k) (before k l) (cases_eq k n);
  }
    where
      last : (k : ℕ) → k ≡ n → entry A more k ≡ ending A n o k
      last k s = ap (λ xs. get_or xs k A.worst) e ∙ get_or_push row x A.worst k (h.sized ∙ sym s) ∙ is ∙ sym (cond-true _ _ _ (eq-eqb k n s))

      before : (k : ℕ) → k < suc n → (k ≡ n → ⊥) → entry A more k ≡ ending A n o k
      before k l ne =
          let below : k < n = omega arith in
          ap (λ xs. get_or xs k A.worst) e ∙ get_or_append_left row _ A.worst k (omega (arith, h.sized)) ∙ h.reads k below ∙ sym (cond-false _ _ _ (ne_eqb k n ne))

  tabled_same : (n : ℕ) (m m' : ℕ → ℕ → S) (o o' : ℕ → S) (t : Table S) → Alike (suc n) m m' → Same (suc n) o o' → Tabled A n m o t → Tabled A n m' o' t
  tabled_same n m m' o o' t p q h = record {
    matching = record { sized = h.matching.sized; reads = λ i j l x. h.matching.reads i j l x ∙ p i j l x };
    opening = record { sized = h.opening.sized; reads = λ k l. h.opening.reads k l ∙ q k l };
  }

  -- where a star matches and is open, from the grid of its repeats and the row of both openings
  module _ (n : ℕ) (s t : Table S) (steps : Grid S) (xs ys either : List S) (sized : s.matches.size ≡ suc n)
      (first : xs ≡ vec_items s.opened) (second : ys ≡ vec_items t.opened)
      (repeating : Gridded A s.matches.size (repeats A (matched A s)) steps)
      (joining : Rowed A (length xs) (λ k. A.join (entry A xs k) (entry A ys k)) either) where
    stepping : Alike (suc n) (cell A steps) (repeats A (matched A s))
    stepping i j l m = repeating.reads i j (omega arith) (omega arith)

    both : (k : ℕ) → k < suc n → entry A either k ≡ A.join (opened A s k) (opened A t k)
    both k l =
        let inside : k < length xs = omega (arith, ap length first, s.opened.ok.0, s.same) in
        joining.reads k inside ∙ ap₂ (λ x y. A.join (entry A x k) (entry A y k)) first second

    pub star_matched : Alike (suc n) (star_match A (cell A steps) (matched A t)) (star_match A (repeats A (matched A s)) (matched A t))
    star_matched = star_match_same A (suc n) _ _ _ _ stepping (λ i j l m. refl)

    pub star_opened : (high : ℕ) → high ≡ suc n → Same n (λ i. join_over A i high (λ j. A.meet (cell A steps i j) (entry A either j))) (star_open A n (repeats A (matched A s)) (opened A s) (opened A t))
    star_opened high e i l =
        ap (λ b. join_over A i b (λ j. A.meet (cell A steps i j) (entry A either j))) e
        ∙ join_over_same A i (suc n) _ _ (λ k a b. ap₂ A.meet (stepping i k (omega arith) b) (both k b))

  -- what a table made on a log of k letters says of the segment, if the log that it is judged on has n
  module _ (value : Test → ℕ → S) (n k : ℕ) (e : k ≡ n) where
    -- the table holds what the segment is worth
    abbrev Of : Segment → Table S → Type 0
    Of a t = Tabled A n (matches A value a) (open_at A value n a) t

    resized : (m : ℕ → ℕ → S) (o : ℕ → ℕ → S) (t : Table S) → Tabled A k m (o k) t → Tabled A n m (o n) t
    resized m o t h = subst (λ i. Tabled A i m (o i) t) e h

    single_of : (test : Test) (row : List S) (t : Table S) → Rowed A k (value test) row
        → Tabled A k (single_match A (entry A row)) (ending A k (λ i. A.worst)) t → Of (single test) t
    unfolding matches open_at
    single_of test row t r h = tabled_same n _ _ _ _ t step (λ i l. refl) (resized _ (λ k. ending A k (λ i. A.worst)) t h)
      where
        step : Alike (suc n) (single_match A (entry A row)) (single_match A (value test))
        step i j l m = ⊎_elim (λ same. ap (λ x. cond (eqb j (suc i)) x A.worst) (r.reads i (omega arith)))
            (λ ne. cond-false _ _ _ (ne_eqb j (suc i) ne) ∙ sym (cond-false _ _ _ (ne_eqb j (suc i) ne))) (cases_eq j (suc i))

    module _ (a b : Segment) (s t u : Table S) (first : Of a s) (second : Of b t) where
      either_of : Tabled A k (either_match A (matched A s) (matched A t)) (ending A k (either_open A (opened A s) (opened A t))) u → Of (either a b) u
      unfolding matches open_at
      either_of h = tabled_same n _ _ _ _ u
          (either_match_same A (suc n) _ _ _ _ first.matching.reads second.matching.reads)
          (ending_same A n _ _ (either_open_same A n (matched A s) (matches A value a) _ _ _ _ first.matching.reads first.opening.reads second.opening.reads))
          (resized _ (λ k. ending A k (either_open A (opened A s) (opened A t))) u h)

      chain_of : Tabled A k (chain_match A (matched A s) (matched A t)) (ending A k (chain_open A k (matched A s) (opened A s) (opened A t))) u → Of (chain a b) u
      unfolding matches open_at
      chain_of h = tabled_same n _ _ _ _ u
          (chain_match_same A (suc n) _ _ _ _ first.matching.reads second.matching.reads)
          (ending_same A n _ _ (chain_open_same A n _ _ _ _ _ _ first.matching.reads first.opening.reads second.opening.reads))
          (resized _ (λ k. ending A k (chain_open A k (matched A s) (opened A s) (opened A t))) u h)

      star_of : Tabled A k (star_match A (repeats A (matched A s)) (matched A t)) (ending A k (star_open A k (repeats A (matched A s)) (opened A s) (opened A t))) u → Of (star a b) u
      unfolding matches open_at
      star_of h =
          let steps : Alike (suc n) (repeats A (matched A s)) (repeats A (matches A value a)) = repeats_same A (suc n) _ _ first.matching.reads in
          tabled_same n _ _ _ _ u
          (star_match_same A (suc n) _ _ _ _ steps second.matching.reads)
          (ending_same A n _ _ (star_open_same A n _ _ _ _ _ _ steps first.opening.reads second.opening.reads))
          (resized _ (λ k. ending A k (star_open A k (repeats A (matched A s)) (opened A s) (opened A t))) u h)

    -- the same of a result, for a segment that is the whole of these parts
    module _ {E : Type 0} (whole : Segment) (result : Result (Table S) E) where
      pub single_whole : (test : Test) (row xs : List S) → whole ≡ single test → xs ≡ row → Rowed A k (value test) row
          → IfOk result (Tabled A k (single_match A (entry A xs)) (ending A k (λ i. A.worst))) → IfOk result (Of whole)
      single_whole test row xs is same r h =
          IfOk-weaker result _ _ (λ u x. subst (λ w. Of w u) (sym is) (single_of test xs u (subst (Rowed A k (value test)) (sym same) r) x)) h

      module _ (a b : Segment) (s t : Table S) (first : Of a s) (second : Of b t) where
        pub either_whole : whole ≡ either a b → IfOk result (Tabled A k (either_match A (matched A s) (matched A t)) (ending A k (either_open A (opened A s) (opened A t)))) → IfOk result (Of whole)
        either_whole is h = IfOk-weaker result _ _ (λ u x. subst (λ w. Of w u) (sym is) (either_of a b s t u first second x)) h

        pub chain_whole : whole ≡ chain a b → IfOk result (Tabled A k (chain_match A (matched A s) (matched A t)) (ending A k (chain_open A k (matched A s) (opened A s) (opened A t)))) → IfOk result (Of whole)
        chain_whole is h = IfOk-weaker result _ _ (λ u x. subst (λ w. Of w u) (sym is) (chain_of a b s t u first second x)) h

        pub star_whole : whole ≡ star a b → IfOk result (Tabled A k (star_match A (repeats A (matched A s)) (matched A t)) (ending A k (star_open A k (repeats A (matched A s)) (opened A s) (opened A t)))) → IfOk result (Of whole)
        star_whole is h = IfOk-weaker result _ _ (λ u x. subst (λ w. Of w u) (sym is) (star_of a b s t u first second x)) h
