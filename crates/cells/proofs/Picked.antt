-- The joins and meets over picked tests are sums. Assumes nothing.
use Rattle.std.proofs.Common.{◌≡◌, ℕ, Bool, true, false, cond, List, [], ◌∷◌, ◌++◌, length, Option, refl, ap, arith}
use Rattle.cells.specs.Reading.{blended}
use Rattle.cells.specs.Step.{some_after, every_after, some_of, every_of}
use Rattle.cells.proofs.Sums.{sum}
use Rattle.cells.proofs.Along.{none}
use Rattle.rule.specs.declared.leaf.Test.{Test}
use Rattle.scale.specs.Laws.{Algebra}

module _ {S : Type 0} (A : Algebra S) (value : Test → S) (after : ℕ → S) (every : Bool) (op : S) where
  -- a test with what comes after it
  abbrev pub one_hit : Test → Option S → Bool → S
  one_hit t c e = cond every (A.join (A.opposite (value t)) (every_after A value after op c e)) (A.meet (value t) (some_after A value after op c e))

  abbrev pub hits : List Test → List (Option S) → List Bool → List S
  hits [] cs es = []
  hits (t ∷ ts) [] es = []
  hits (t ∷ ts) (c ∷ cs) [] = []
  hits (t ∷ ts) (c ∷ cs) (e ∷ es) = one_hit t c e ∷ hits ts cs es

  pub hits_append : (ts us : List Test) (cs ds : List (Option S)) (es fs : List Bool) → length cs ≡ length ts → length es ≡ length ts
      → hits (ts ++ us) (cs ++ ds) (es ++ fs) ≡ hits ts cs es ++ hits us ds fs
  hits_append [] us [] ds [] fs p q = refl
  hits_append [] us [] ds (e ∷ es) fs p q = absurd (omega arith)
  hits_append [] us (c ∷ cs) ds es fs p q = absurd (omega arith)
  hits_append (t ∷ ts) us [] ds es fs p q = absurd (omega arith)
  hits_append (t ∷ ts) us (c ∷ cs) ds [] fs p q = absurd (omega arith)
  hits_append (t ∷ ts) us (c ∷ cs) ds (e ∷ es) fs p q = ap (λ r. one_hit t c e ∷ r) (hits_append ts us cs ds es fs (omega arith) (omega arith))

module _ {S : Type 0} (A : Algebra S) (value : Test → S) (after : ℕ → S) where
  pub picked_is : (every : Bool) (op : S) (ps : List Bool) (ts : List Test) (cs : List (Option S)) (es : List Bool)
      → cond every (every_of A value after op ps ts cs es) (some_of A value after op ps ts cs es)
      ≡ sum (blended A every) (none A every) ps (hits A value after every op ts cs es)
  picked_is every op [] ts cs es = refl
  picked_is every op (p ∷ ps) [] cs es = refl
  picked_is every op (p ∷ ps) (t ∷ ts) [] es = refl
  picked_is every op (p ∷ ps) (t ∷ ts) (c ∷ cs) [] = refl
  picked_is true op (p ∷ ps) (t ∷ ts) (c ∷ cs) (e ∷ es) = ap (A.meet _) (picked_is true op ps ts cs es)
  picked_is false op (p ∷ ps) (t ∷ ts) (c ∷ cs) (e ∷ es) = ap (A.join _) (picked_is false op ps ts cs es)
