-- What a chain gives that calls a closure at each position of a range. Assumes nothing.
use Rattle.std.proofs.Common.{◌≡◌, ℕ, zero, suc, ◌+◌, ◌-◌, ◌<◌, ◌≤◌, map, length, get_or, Vec, vec_items, refl, ap, ◌∙◌, subst, arith}
use denote.Param.Members.{Mut}
use Rattle.std.specs.Fn.{Called}
use Rattle.std.specs.List.{fold, range_with_len}
use Rattle.std.specs.Result.{IfOk}
use Rattle.std.specs.declared.result.Result.{Result}
use Rattle.std.specs.declared.result.Result.TheVariants.{Ok, Err}
use Rattle.scale.specs.Laws.{Algebra}
use Rattle.evaluator.specs.Tables.{Rowed, merged}
use Rattle.std.proofs.lemmas.List.FromFn.{length-range_with_len, get_or-range_with_len}
use Rattle.std.proofs.lemmas.List.{get_or-map, length-map}
use Rattle.std.specs.Iterator.{AlwaysYields}
use Rattle.std.specs.declared.iter.Map.{Map}
use Rattle.std.specs.declared.ops.Range.{Range}
use Rattle.std.proofs.iter.Yields.{nat_range_steps}
use Rattle.std.proofs.lemmas.Iterator.{maps}
use Rattle.std.specs.Iterator.Adapters.{map_source, map_callee}

module _ {S F : Type 0} (g : Mut F (ℕ × Unit {0}) S) (c : F) (f : ℕ → S) (low high : ℕ) (calls : (x : ℕ) (r : S) (q : F) → low ≤ x → x < high → Called g c (x, tt) r q → (q ≡ c) × (r ≡ f x)) where
  ranged : (n first : ℕ) (s : Map (Range ℕ) F) → map_callee s ≡ c → (map_source s).start ≡ first → (map_source s).end ≡ high → low ≤ first → high - first ≡ n
      → AlwaysYields (maps nat_range_steps g) (λ x. x) s (map f (range_with_len first n))
  ranged zero first s e a b l k = λ y j p. omega (arith, p.1.1.0, a, b, k)
  ranged (suc n) first s e a b l k = (
    (λ j p. omega (arith, p.0.1.0, a, b, k)),
    λ y j p.
        let at : p.0 ≡ first = p.1.1.1 ∙ a in
        let m = calls p.0 y (map_callee j) (omega (arith, at, l)) (omega (arith, at, k)) (subst (λ w. Called g w (p.0, tt) y (map_callee j)) e p.2) in
        (m.1 ∙ ap f at, ranged n (first + 1) j m.0 (p.1.1.2 ∙ ap (λ i. i + 1) a) (p.1.0 ∙ b) (omega (arith, l)) (omega (arith, k))),
  )

-- the same, of a whole range
pub ranged_from : {S F : Type 0} {g : Mut F (ℕ × Unit {0}) S} (c : F) (f : ℕ → S) (low high : ℕ) {s : Map (Range ℕ) F} → map_callee s ≡ c → map_source s ≡ record { start = low; end = high }
    → ((x : ℕ) (r : S) (q : F) → low ≤ x → x < high → Called g c (x, tt) r q → (q ≡ c) × (r ≡ f x)) → AlwaysYields (maps nat_range_steps g) (λ x. x) s (map f (range_with_len low (high - low)))
ranged_from {S} {F} {g} c f low high {s} e a calls = ranged g c f low high calls (high - low) low s e (ap (λ (r : Range ℕ). r.start) a) (ap (λ (r : Range ℕ). r.end) a) (omega arith) refl

-- a row of what was called at each position holds that
pub row_ranged : {S Z E : Type 0} (A : Algebra S) (f : ℕ → S) (size : ℕ) (r : Result (Vec S Z) E) → IfOk r (λ w. vec_items w ≡ map f (range_with_len 0 (size - 0))) → IfOk r (λ row. Rowed A size f row.items)
row_ranged A f size (Err x) h = tt
row_ranged A f size (Ok w) h = record {
  sized = ap length h ∙ length-map _ _ ∙ length-range_with_len 0 (size - 0) ∙ omega arith;
  reads = λ k l.
      ap (λ xs. get_or xs k A.worst) h
      ∙ get_or-map f (range_with_len 0 (size - 0)) k 0 A.worst (omega (arith, length-range_with_len 0 (size - 0)))
      ∙ ap f (omega (arith, get_or-range_with_len 0 (size - 0) k 0 (omega arith)));
}

module _ {S : Type 0} (m : S → S → S) where
  fold_merged : (start : S) (low : ℕ) (f : ℕ → S) (n k first : ℕ) → first ≡ low + k → fold m (merged m start low k f) (map f (range_with_len first n)) ≡ merged m start low (k + n) f
  unfolding merged
  fold_merged start low f zero k first e = ap (λ c. merged m start low c f) (omega arith)
  fold_merged start low f (suc n) k first e =
      ap (λ i. fold m (m (merged m start low k f) (f i)) (map f (range_with_len (first + 1) n))) e
      ∙ fold_merged start low f n (suc k) (first + 1) (omega (arith, e))
      ∙ ap (λ c. merged m start low c f) (omega arith)

  -- folded over the positions, or merged along them
  pub fold_along : (start : S) (low : ℕ) (f : ℕ → S) (n : ℕ) → fold m start (map f (range_with_len low n)) ≡ merged m start low n f
  unfolding merged
  fold_along start low f n = fold_merged start low f n 0 low (omega arith) ∙ ap (λ c. merged m start low c f) (omega arith)
