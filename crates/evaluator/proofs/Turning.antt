-- The row of an until or a release while it is filled. Assumes nothing.
use Rattle.std.proofs.Common.{◌≡◌, ℕ, ◌+◌, ◌<◌, ◌≤◌, List, length, get_or, set, sym, refl, ap, ◌∙◌, subst, ⊎_elim, length-set, arith}
use Rattle.scale.specs.Laws.{Algebra}
use Rattle.evaluator.specs.declared.next.Next.{Next}
use Rattle.evaluator.specs.Segments.{matched, opened, next_is}
use Rattle.evaluator.specs.Tables.{entry}
use Rattle.evaluator.proofs.Parts.{next_part_same}
use Rattle.std.proofs.lemmas.List.{get_or-set_same, get_or-set_other}
use Rattle.std.proofs.lemmas.Bool.{cases_eq}

-- `post` says what the turn returns, of the goal's value, the hold's and the next's
module _ {S : Type 0} (A : Algebra S) (post : S → S → S → S → Type 0) (next : Next S) (n : ℕ) (hold goal : List S) where
  -- the positions from k on have what the turn returned
  abbrev pub Partly : ℕ → List S → Type 0
  Partly k row = (length row ≡ n) × ((i : ℕ) → k ≤ i → i < n → post (entry A goal i) (entry A hold i) (next_is A next n (entry A row) i) (entry A row i))

  pub partly_more : (k before : ℕ) (row more : List S) (x : S) → k < n → before ≡ k + 1 → Partly before row → more ≡ set row k x
      → (of_goal of_hold of_next : S) → of_goal ≡ entry A goal k → of_hold ≡ entry A hold k → of_next ≡ next_is A next n (entry A row) k
      → post of_goal of_hold of_next x → Partly k more
  partly_more k before row more x l b h e of_goal of_hold of_next is_goal is_hold is_next p =
      (ap length e ∙ length-set row k x ∙ h.0, λ i low high. ⊎_elim (here i) (further i low high) (cases_eq i k))
    where
      keep : (i : ℕ) → k < i → entry A more i ≡ entry A row i
      keep i above = ap (λ xs. get_or xs i A.worst) e ∙ get_or-set_other row k i x A.worst (λ s. omega arith)

      same_next : (i : ℕ) → k ≤ i → i < n → next_is A next n (entry A row) i ≡ next_is A next n (entry A more) i
      same_next i low high = next_part_same A n (matched A next.table) (matched A next.table) (opened A next.table) (opened A next.table) (entry A row) (entry A more) next.mark i high
          (λ j a b. refl) refl (λ j a b. sym (keep j (omega arith))) next.kind

      this : post (entry A goal k) (entry A hold k) (next_is A next n (entry A more) k) (entry A more k)
      this =
          let is : x ≡ entry A more k = sym (ap (λ xs. get_or xs k A.worst) e ∙ get_or-set_same row k x A.worst (omega (arith, h.0))) in
          subst (post (entry A goal k) (entry A hold k) (next_is A next n (entry A more) k)) is
          (subst (λ y. post (entry A goal k) (entry A hold k) y x) (is_next ∙ same_next k (omega arith) l)
          (subst (λ y. post (entry A goal k) y of_next x) is_hold (subst (λ y. post y of_hold of_next x) is_goal p)))

      here : (i : ℕ) → i ≡ k → post (entry A goal i) (entry A hold i) (next_is A next n (entry A more) i) (entry A more i)
      here i s = subst (λ j. post (entry A goal j) (entry A hold j) (next_is A next n (entry A more) j) (entry A more j)) (sym s) this

      further : (i : ℕ) → k ≤ i → i < n → (i ≡ k → ⊥) → post (entry A goal i) (entry A hold i) (next_is A next n (entry A more) i) (entry A more i)
      further i low high ne =
          subst (post (entry A goal i) (entry A hold i) (next_is A next n (entry A more) i)) (sym (keep i (omega arith)))
          (subst (λ y. post (entry A goal i) (entry A hold i) y (entry A row i)) (same_next i low high) (h.1 i (omega arith) high))
