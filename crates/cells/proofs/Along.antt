-- A next of some or of every match by the parts of its segment, which tests have a cell, and what may follow them. Assumes nothing.
use Rattle.std.proofs.Common.{◌≡◌, ℕ, suc, ◌<◌, Bool, true, false, cond, not, ◌++◌, map, Some, None, Option, sym, refl, ap, ◌∙◌, ap₂}
use mathlib.Core.List.{map-append}
use mathlib.Core.Path.{fun_ext}
use Rattle.cells.specs.Shape.{with_cell}
use Rattle.cells.specs.Meaning.{along, follow}
use Rattle.cells.specs.Reading.{blended}
use Rattle.cells.proofs.Sums.{Summing}
use Rattle.cells.proofs.Contexts.{Parts, follows, celled, with_cell_celled}
use Rattle.rule.specs.declared.leaf.Test.{Test}
use Rattle.rule.specs.Tree.{Segment, single, either, chain, star}
use Rattle.scale.specs.Laws.{Algebra, Lawful}
use Rattle.scale.proofs.Lattice.{join_idem, meet_idem, opposite_meet}
use Rattle.semantics.specs.Equations.{onward}
use Rattle.semantics.proofs.Segments.{onwards}

-- what no test is worth: every match meets, some match joins
module _ {S : Type 0} (A : Algebra S) where
  abbrev pub none : Bool → S
  none every = cond every A.best A.worst

  -- a test worth v, with what comes after it
  abbrev pub hit : Bool → S → S → S
  hit every v x = cond every (A.join (A.opposite v) x) (A.meet v x)

  module _ (value : Test → ℕ → S) (n : ℕ) (every : Bool) where
    abbrev pub along_at : ℕ → Segment → (ℕ → S) → S
    along_at i a then = along A value n every a then i

    -- what comes after the first part of a segment
    abbrev pub resumed : Segment → (ℕ → S) → ℕ → S
    resumed (single t) then = then
    resumed (either a b) then = then
    resumed (chain a b) then = along A value n every b then
    resumed (star a b) then = along A value n every (star a b) then

module _ {S : Type 0} {A : Algebra S} (L : Lawful A) where
  pub summing : (every : Bool) → Summing (blended A every) (none A every)
  summing true = record { assoc = L.meet_assoc; comm = L.meet_comm; idem = meet_idem L; unit = L.best_meet }
  summing false = record { assoc = L.join_assoc; comm = L.join_comm; idem = join_idem L; unit = L.worst_join }

  module _ (value : Test → ℕ → S) (n : ℕ) where
    -- every match is no match that fails
    pub along_opposite : (every : Bool) (a : Segment) (then : ℕ → S) (i : ℕ)
        → along A value n (not every) a then i ≡ A.opposite (along A value n every a (λ j. A.opposite (then j)) i)
    along_opposite false a then i = (onwards L value n then).by_opposite a i
    along_opposite true a then i = sym (ap A.opposite ((onwards L value n (λ j. A.opposite (then j))).by_opposite a i)
        ∙ (L.opposite_twice _ ∙ ap (λ f. onward A value n a f i) (fun_ext (λ j. L.opposite_twice (then j)))))

    pub along_end : (every : Bool) (a : Segment) (then : ℕ → S) → along A value n every a then n ≡ then n
    along_end true a then = along_opposite false a then n
        ∙ (ap A.opposite ((onwards L value n (λ j. A.opposite (then j))).at_end a) ∙ L.opposite_twice (then n))
    along_end false a then = (onwards L value n then).at_end a

    along_twice : (a b : Segment) (then : ℕ → S) (i : ℕ) → along A value n true a (along A value n true b then) i
        ≡ A.opposite (along A value n false a (along A value n false b (λ j. A.opposite (then j))) i)
    along_twice a b then i = along_opposite false a (along A value n true b then) i
        ∙ ap (λ f. A.opposite (along A value n false a f i)) (fun_ext (λ j. ap A.opposite (along_opposite false b then j) ∙ L.opposite_twice _))

    module _ (i : ℕ) (h : i < n) where
      pub along_test : (every : Bool) (t : Test) (then : ℕ → S) → along A value n every (single t) then i ≡ hit A every (value t i) (then (suc i))
      along_test true t then = along_opposite false (single t) then i
          ∙ (ap A.opposite ((onwards L value n (λ j. A.opposite (then j))).by_test t i h)
          ∙ (opposite_meet L _ _ ∙ ap (A.join (A.opposite (value t i))) (L.opposite_twice (then (suc i)))))
      along_test false t then = (onwards L value n then).by_test t i h

      pub parts : (every : Bool) → Parts (blended A every) (none A every) (along_at A value n every i) (resumed A value n every) (λ b f. f)
      parts false = record {
        by_either = λ a b then. (onwards L value n then).by_either a b i h;
        by_chain = λ a b then. (onwards L value n then).by_chain a b i h;
        by_star = λ a b then. (onwards L value n then).by_star a b i h ∙ L.join_comm _ _;
      }
      parts true = record {
        by_either = λ a b then. along_opposite false (either a b) then i
            ∙ (ap A.opposite ((onwards L value n (λ j. A.opposite (then j))).by_either a b i h)
            ∙ (L.opposite_join _ _ ∙ sym (ap₂ A.meet (along_opposite false a then i) (along_opposite false b then i))));
        by_chain = λ a b then. along_opposite false (chain a b) then i
            ∙ (ap A.opposite ((onwards L value n (λ j. A.opposite (then j))).by_chain a b i h) ∙ sym (along_twice a b then i));
        by_star = λ a b then. along_opposite false (star a b) then i
            ∙ (ap A.opposite ((onwards L value n (λ j. A.opposite (then j))).by_star a b i h)
            ∙ (L.opposite_join _ _ ∙ sym (ap₂ A.meet (along_opposite false b then i) (along_twice a (star a b) then i)) ∙ L.meet_comm _ _));
      }

abbrev pub given : {X : Type 0} → Option X → Bool
given None = false
given (Some x) = true

module _ {S : Type 0} (A : Algebra S) (value : Test → ℕ → S) (n : ℕ) (every : Bool) where
  celled_given : (a : Segment) (then : ℕ → S) (within : Option (ℕ → S)) → celled a (given within) ≡ map given (follow A value n every a then within)
  unfolding follow follows
  celled_given (single t) then within = refl
  celled_given (either a b) then within = ap₂ ◌++◌ (celled_given a then within) (celled_given b then within)
      ∙ sym (map-append given (follow A value n every a then within) _)
  celled_given (chain a b) then within = ap₂ ◌++◌ (celled_given a _ (Some (along A value n every b then))) (celled_given b then within)
      ∙ sym (map-append given (follow A value n every a _ (Some (along A value n every b then))) _)
  celled_given (star a b) then within = ap₂ ◌++◌ (celled_given a _ (Some (along A value n every (star a b) then))) (celled_given b then within)
      ∙ sym (map-append given (follow A value n every a _ (Some (along A value n every (star a b) then))) _)

  -- a test has a cell where something may follow it within the segment
  pub with_cell_is : (a : Segment) (then : ℕ → S) → with_cell a ≡ map given (follow A value n every a then None)
  with_cell_is a then = with_cell_celled a ∙ celled_given a then None

  module _ (i : ℕ) where
    abbrev pub kept : Option (ℕ → S) → S
    kept None = none A every
    kept (Some f) = f i

    -- what may follow each test within the segment, at i
    pub follows_kept : (a : Segment) (then : ℕ → S) (within : Option (ℕ → S))
        → follows (blended A every) (none A every) (along_at A value n every i) (resumed A value n every) (λ b f. f) a then (kept within)
        ≡ map kept (follow A value n every a then within)
    unfolding follow follows
    follows_kept (single t) then within = refl
    follows_kept (either a b) then within = ap₂ ◌++◌ (follows_kept a then within) (follows_kept b then within)
        ∙ sym (map-append kept (follow A value n every a then within) _)
    follows_kept (chain a b) then within = ap₂ ◌++◌ (follows_kept a _ (Some (along A value n every b then))) (follows_kept b then within)
        ∙ sym (map-append kept (follow A value n every a _ (Some (along A value n every b then))) _)
    follows_kept (star a b) then within = ap₂ ◌++◌ (follows_kept a _ (Some (along A value n every (star a b) then))) (follows_kept b then within)
        ∙ sym (map-append kept (follow A value n every a _ (Some (along A value n every (star a b) then))) _)
