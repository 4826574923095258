-- Joins and meets that a loop builds position by position. Assumes nothing.
use Rattle.std.proofs.Common.{◌≡◌, ℕ, zero, suc, ◌+◌, ◌-◌, ◌≤◌, refl, ap, ◌∙◌, arith}
use Rattle.scale.specs.Laws.{Algebra}
use Rattle.semantics.specs.Folds.{joined, met, join_over, meet_over}
use Rattle.evaluator.specs.Tables.{merged}

module _ {S : Type 0} (A : Algebra S) (f : ℕ → S) where
  joined_more : (low count k more : ℕ) → low + count ≡ k → more ≡ suc count → joined A low more f ≡ A.join (joined A low count f) (f k)
  unfolding joined
  joined_more low count k more e m = ap (λ c. joined A low c f) m ∙ ap (λ i. A.join (joined A low count f) (f i)) e

  met_more : (low count k more : ℕ) → low + count ≡ k → more ≡ suc count → met A low more f ≡ A.meet (met A low count f) (f k)
  unfolding met
  met_more low count k more e m = ap (λ c. met A low c f) m ∙ ap (λ i. A.meet (met A low count f) (f i)) e

  -- the join, and the meet, over one position more
  pub join_more : (low k next : ℕ) → low ≤ k → k + 1 ≡ next → join_over A low next f ≡ A.join (join_over A low k f) (f k)
  join_more low k next l e = joined_more low (k - low) k (next - low) (omega arith) (omega arith)

  pub meet_more : (low k next : ℕ) → low ≤ k → k + 1 ≡ next → meet_over A low next f ≡ A.meet (meet_over A low k f) (f k)
  meet_more low k next l e = met_more low (k - low) k (next - low) (omega arith) (omega arith)

-- merged by join from worst on, or by meet from best on
module _ {S : Type 0} (A : Algebra S) (first : ℕ) (f : ℕ → S) where
  merged_joined : (count : ℕ) → merged A.join A.worst first count f ≡ joined A first count f
  unfolding merged joined
  merged_joined zero = refl
  merged_joined (suc count) = ap (λ x. A.join x (f (first + count))) (merged_joined count)

  merged_met : (count : ℕ) → merged A.meet A.best first count f ≡ met A first count f
  unfolding merged met
  merged_met zero = refl
  merged_met (suc count) = ap (λ x. A.meet x (f (first + count))) (merged_met count)

  pub joined_over : (high : ℕ) (start result : S) → start ≡ A.worst → result ≡ merged A.join start first (high - first) f → result ≡ join_over A first high f
  joined_over high start result e h = h ∙ ap (λ s. merged A.join s first (high - first) f) e ∙ merged_joined (high - first)

  pub met_over : (high : ℕ) (start result : S) → start ≡ A.best → result ≡ merged A.meet start first (high - first) f → result ≡ meet_over A first high f
  met_over high start result e h = h ∙ ap (λ s. merged A.meet s first (high - first) f) e ∙ merged_met (high - first)
