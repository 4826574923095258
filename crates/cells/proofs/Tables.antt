-- The laws of tables: the step keeps blends, so the cells before a log are rows of the cells after it. Assumes nothing.
use Rattle.std.proofs.Common.{◌≡◌, ℕ, zero, suc, ◌+◌, ◌<◌, ◌≤◌, Bool, true, false, cond, List, [], ◌∷◌, ◌++◌, map, length, get_or, refl, ap, ◌∙◌, ap₂, arith, length-append}
use lib.ListN.{length-map}
use Rattle.cells.specs.Meaning.{Positive, steps}
use Rattle.cells.specs.Rows.{at_corner, at}
use Rattle.cells.specs.Shape.{tests, firsts, endings, followers, with_cell, some_set}
use Rattle.cells.specs.Step.{count_set, test_cells, inner_cells, cell_count, wants_every, dealt, some_of, every_of, over_picked, followed_by, tests_before, before, befores, step}
use Rattle.cells.specs.Tables.{corner_cells, table_of, TableLaws}
use Rattle.cells.proofs.Blends.{Blend, Smooth, blend_fixed, blend_join, blend_meet}
use Rattle.cells.proofs.Rows.{smooth_row, smooth_row_rises}
use Rattle.letter.specs.Heard.{Heard}
use Rattle.rule.specs.declared.leaf.Kind.{Kind}
use Rattle.rule.specs.declared.leaf.Test.{Test}
use Rattle.rule.specs.Tree.{Segment, Rule, letter, negated, both, any, next, until, release}
use Rattle.scale.specs.Laws.{Algebra, Lawful}
use Rattle.semantics.specs.Reports.{test_on}
use Rattle.std.specs.List.{range_with_len}
use Rattle.std.proofs.lemmas.List.FromFn.{length-map-range_with_len, get_or-map-range_with_len, fill_by_all}

module _ {S : Type 0} (A : Algebra S) (value : Test → S) (after : ℕ → S) where
  followed_length : (k : Kind) (a : Segment) (op base : ℕ) (has : List Bool) (rows : List (List Bool)) → length has ≡ length rows
      → length (followed_by A value after k a op base has rows) ≡ count_set has
  followed_length k a op base [] rows e = refl
  followed_length k a op base (true ∷ has) [] e = absurd (omega arith)
  followed_length k a op base (false ∷ has) [] e = absurd (omega arith)
  followed_length k a op base (true ∷ has) (row ∷ rows) e = ap suc (followed_length k a op base has rows (omega arith))
  followed_length k a op base (false ∷ has) (row ∷ rows) e = followed_length k a op base has rows (omega arith)

  pub tests_long : (k : Kind) (a : Segment) (op base : ℕ) → length (tests_before A value after k a op base) ≡ test_cells a
  tests_long k a op base = followed_length k a op base (with_cell a) (followers a) (length-map (followers a) some_set)

  -- as many cells before the letter as the rule has
  pub befores_length : (r : Rule) (base : ℕ) → length (befores A value after r base) ≡ inner_cells r
  unfolding befores inner_cells
  befores_length (letter t) base = refl
  befores_length (negated r) base = befores_length r base
  befores_length (both r s) base = simp length-append (ap₂ ◌+◌ (befores_length r _) (befores_length s _))
  befores_length (any r s) base = simp length-append (ap₂ ◌+◌ (befores_length r _) (befores_length s _))
  befores_length (next k a r) base = ap suc (simp length-append (ap₂ ◌+◌ (tests_long k a _ _) (befores_length r _)))
  befores_length (until k r a s) base =
      ap suc (simp length-append (ap₂ ◌+◌ (befores_length r _) (ap₂ ◌+◌ (tests_long k a _ _) (befores_length s _))))
  befores_length (release k r a s) base =
      ap suc (simp length-append (ap₂ ◌+◌ (befores_length r _) (ap₂ ◌+◌ (tests_long k a _ _) (befores_length s _))))

  pub step_length : (r : Rule) → length (step A value after r) ≡ cell_count r
  step_length r = ap suc (befores_length r 1)

-- lists of one length that blend cell by cell
data Blends {S : Type 0} (A : Algebra S) (x : S) : List S → List S → List S → Type 0 where
  none : Blends A x [] [] []
  more : {a b c : S} {us vs ws : List S} → Blend A x a b c → Blends A x us vs ws → Blends A x (a ∷ us) (b ∷ vs) (c ∷ ws)

module _ {S : Type 0} {A : Algebra S} {x : S} where
  blends_append : {us vs ws us' vs' ws' : List S} → Blends A x us vs ws → Blends A x us' vs' ws' → Blends A x (us ++ us') (vs ++ vs') (ws ++ ws')
  blends_append none q = q
  blends_append (more b p) q = more b (blends_append p q)

module _ {S : Type 0} {A : Algebra S} (L : Lawful A) {x : S} where
  blend_cond : (p : Bool) {a b c d e f : S} → Blend A x a b c → Blend A x d e f → Blend A x (cond p a d) (cond p b e) (cond p c f)
  blend_cond true s t = s
  blend_cond false s t = t

  blends_at : {us vs ws : List S} → Blends A x us vs ws → (k : ℕ) → Blend A x (get_or us k A.worst) (get_or vs k A.worst) (get_or ws k A.worst)
  blends_at none k = blend_fixed L x _
  blends_at (more b p) zero = b
  blends_at (more b p) (suc k) = blends_at p k

-- blended cells after the letter, of n cells
module _ {S : Type 0} {A : Algebra S} (L : Lawful A) (value : Test → S) (n : ℕ) (x : S) (u v w : ℕ → S)
    (cells : (k : ℕ) → k < n → Blend A x (u k) (v k) (w k)) where
  some_blend : (op : ℕ) → op < n → (picked : List Bool) (ts : List Test) (has ends : List Bool) (base : ℕ) → base + count_set has ≤ n
      → Blend A x (some_of A value u (u op) picked ts (dealt A value u has base) ends)
      (some_of A value v (v op) picked ts (dealt A value v has base) ends) (some_of A value w (w op) picked ts (dealt A value w has base) ends)
  some_blend op h [] ts has ends base l = blend_fixed L x _
  some_blend op h (p ∷ picked) [] has ends base l = blend_fixed L x _
  some_blend op h (p ∷ picked) (t ∷ ts) [] ends base l = blend_fixed L x _
  some_blend op h (p ∷ picked) (t ∷ ts) (true ∷ has) [] base l = blend_fixed L x _
  some_blend op h (p ∷ picked) (t ∷ ts) (false ∷ has) [] base l = blend_fixed L x _
  some_blend op h (p ∷ picked) (t ∷ ts) (true ∷ has) (true ∷ ends) base l =
      blend_join L (blend_cond L p (blend_meet L (blend_fixed L x _) (blend_join L (cells base (omega arith)) (cells op h))) (blend_fixed L x _))
      (some_blend op h picked ts has ends (suc base) (omega arith))
  some_blend op h (p ∷ picked) (t ∷ ts) (true ∷ has) (false ∷ ends) base l =
      blend_join L (blend_cond L p (blend_meet L (blend_fixed L x _) (cells base (omega arith))) (blend_fixed L x _))
      (some_blend op h picked ts has ends (suc base) (omega arith))
  some_blend op h (p ∷ picked) (t ∷ ts) (false ∷ has) (true ∷ ends) base l =
      blend_join L (blend_cond L p (blend_meet L (blend_fixed L x _) (cells op h)) (blend_fixed L x _)) (some_blend op h picked ts has ends base l)
  some_blend op h (p ∷ picked) (t ∷ ts) (false ∷ has) (false ∷ ends) base l =
      blend_join L (blend_cond L p (blend_fixed L x _) (blend_fixed L x _)) (some_blend op h picked ts has ends base l)

  every_blend : (op : ℕ) → op < n → (picked : List Bool) (ts : List Test) (has ends : List Bool) (base : ℕ) → base + count_set has ≤ n
      → Blend A x (every_of A value u (u op) picked ts (dealt A value u has base) ends)
      (every_of A value v (v op) picked ts (dealt A value v has base) ends) (every_of A value w (w op) picked ts (dealt A value w has base) ends)
  every_blend op h [] ts has ends base l = blend_fixed L x _
  every_blend op h (p ∷ picked) [] has ends base l = blend_fixed L x _
  every_blend op h (p ∷ picked) (t ∷ ts) [] ends base l = blend_fixed L x _
  every_blend op h (p ∷ picked) (t ∷ ts) (true ∷ has) [] base l = blend_fixed L x _
  every_blend op h (p ∷ picked) (t ∷ ts) (false ∷ has) [] base l = blend_fixed L x _
  every_blend op h (p ∷ picked) (t ∷ ts) (true ∷ has) (true ∷ ends) base l =
      blend_meet L (blend_cond L p (blend_join L (blend_fixed L x _) (blend_meet L (cells base (omega arith)) (cells op h))) (blend_fixed L x _))
      (every_blend op h picked ts has ends (suc base) (omega arith))
  every_blend op h (p ∷ picked) (t ∷ ts) (true ∷ has) (false ∷ ends) base l =
      blend_meet L (blend_cond L p (blend_join L (blend_fixed L x _) (cells base (omega arith))) (blend_fixed L x _))
      (every_blend op h picked ts has ends (suc base) (omega arith))
  every_blend op h (p ∷ picked) (t ∷ ts) (false ∷ has) (true ∷ ends) base l =
      blend_meet L (blend_cond L p (blend_join L (blend_fixed L x _) (cells op h)) (blend_fixed L x _)) (every_blend op h picked ts has ends base l)
  every_blend op h (p ∷ picked) (t ∷ ts) (false ∷ has) (false ∷ ends) base l =
      blend_meet L (blend_cond L p (blend_fixed L x _) (blend_fixed L x _)) (every_blend op h picked ts has ends base l)

  module _ (k : Kind) (a : Segment) (op base : ℕ) (h : op < n) (l : base + test_cells a ≤ n) where
    picked_blend : (picked : List Bool) → Blend A x (over_picked A value u k a op base picked) (over_picked A value v k a op base picked) (over_picked A value w k a op base picked)
    picked_blend picked = blend_cond L (wants_every k) (every_blend op h picked (tests a) (with_cell a) (endings a) base l)
        (some_blend op h picked (tests a) (with_cell a) (endings a) base l)

    followed_blend : (has : List Bool) (rows : List (List Bool)) → Blends A x (followed_by A value u k a op base has rows)
        (followed_by A value v k a op base has rows) (followed_by A value w k a op base has rows)
    followed_blend [] rows = none
    followed_blend (true ∷ has) [] = none
    followed_blend (false ∷ has) [] = none
    followed_blend (true ∷ has) (row ∷ rows) = more (picked_blend row) (followed_blend has rows)
    followed_blend (false ∷ has) (row ∷ rows) = followed_blend has rows

    tests_blend : Blends A x (tests_before A value u k a op base) (tests_before A value v k a op base) (tests_before A value w k a op base)
    tests_blend = followed_blend (with_cell a) (followers a)

  abbrev Kept : Rule → ℕ → Type 0
  Kept r base = Blend A x (before A value u r base) (before A value v r base) (before A value w r base)
      × Blends A x (befores A value u r base) (befores A value v r base) (befores A value w r base)

  -- a rule without `!` keeps blends
  rule_blends : (r : Rule) → Positive r → (base : ℕ) → base + inner_cells r ≤ n → Kept r base
  unfolding before befores inner_cells
  rule_blends (letter t) p base l = (blend_fixed L x _, none)
  rule_blends (negated r) p base l = absurd p
  rule_blends (both r s) p base l =
      let y = rule_blends r p.0 base (omega arith) in
      let z = rule_blends s p.1 (base + inner_cells r) (omega arith) in
      (blend_meet L y.0 z.0, blends_append y.1 z.1)
  rule_blends (any r s) p base l =
      let y = rule_blends r p.0 base (omega arith) in
      let z = rule_blends s p.1 (base + inner_cells r) (omega arith) in
      (blend_join L y.0 z.0, blends_append y.1 z.1)
  rule_blends (next k a r) p base l =
      let y = rule_blends r p (suc base + test_cells a) (omega arith) in (
        picked_blend k a base (suc base) (omega arith) (omega arith) (firsts a),
        more y.0 (blends_append (tests_blend k a base (suc base) (omega arith) (omega arith)) y.1),
      )
  rule_blends (until k r a s) p base l =
      let y = rule_blends r p.0 (suc base) (omega arith) in
      let z = rule_blends s p.1 (suc base + inner_cells r + test_cells a) (omega arith) in
      let now = blend_join L z.0 (blend_meet L y.0 (picked_blend k a base (suc base + inner_cells r) (omega arith) (omega arith) (firsts a))) in
      (now, more now (blends_append y.1 (blends_append (tests_blend k a base (suc base + inner_cells r) (omega arith) (omega arith)) z.1)))
  rule_blends (release k r a s) p base l =
      let y = rule_blends r p.0 (suc base) (omega arith) in
      let z = rule_blends s p.1 (suc base + inner_cells r + test_cells a) (omega arith) in
      let now = blend_meet L z.0 (blend_join L y.0 (picked_blend k a base (suc base + inner_cells r) (omega arith) (omega arith) (firsts a))) in
      (now, more now (blends_append y.1 (blends_append (tests_blend k a base (suc base + inner_cells r) (omega arith) (omega arith)) z.1)))

  step_blends : (r : Rule) → Positive r → cell_count r ≤ n → Blends A x (step A value u r) (step A value v r) (step A value w r)
  step_blends r p l = let y = rule_blends r p 1 (omega arith) in more y.0 y.1

  -- the cells listed from first on blend
  listed_blend : (first count : ℕ) → first + count ≤ n → Blends A x (map u (range_with_len first count)) (map v (range_with_len first count)) (map w (range_with_len first count))
  listed_blend first zero l = none
  listed_blend first (suc count) l = more (cells first (omega arith)) (listed_blend (first + 1) count (omega arith))

module _ {S : Type 0} (A : Algebra S) (r : Rule) where
  steps_length : (log : List (Heard S)) (v : List S) → length v ≡ cell_count r → length (steps A r log v) ≡ cell_count r
  steps_length [] v e = e
  steps_length (l ∷ log) v e = step_length A _ _ r

  steps_joined : (log others : List (Heard S)) (v : List S) → steps A r (log ++ others) v ≡ steps A r log (steps A r others v)
  steps_joined [] others v = refl
  steps_joined (l ∷ log) others v =
      ap (λ (cells : List S). step A (λ t. test_on A t.channel t.opposite l) (λ k. get_or cells k A.worst) r) (steps_joined log others v)

module _ {S : Type 0} {A : Algebra S} (L : Lawful A) (r : Rule) (p : Positive r) where
  steps_blend : {x : S} {us vs ws : List S} (log : List (Heard S)) → Blends A x us vs ws → Blends A x (steps A r log us) (steps A r log vs) (steps A r log ws)
  steps_blend [] b = b
  steps_blend {x} (l ∷ log) b = step_blends L _ (cell_count r) x _ _ _ (λ k h. blends_at L (steps_blend log b) k) r p (omega arith)

  -- a cell before a log is smooth in the cells after it
  cell_smooth : (log : List (Heard S)) (k : ℕ) → Smooth A (cell_count r) (λ f. get_or (steps A r log (map f (range_with_len 0 (cell_count r)))) k A.worst)
  cell_smooth log k x u v w h = blends_at L (steps_blend log (listed_blend L (λ t. A.worst) (cell_count r) x u v w h 0 (cell_count r) (omega arith))) k

  table_at : (log : List (Heard S)) (v : List S) → length v ≡ cell_count r → (k : ℕ)
      → get_or (steps A r log v) k A.worst ≡ at A (cell_count r) (table_of A r log k) (λ j. get_or v j A.worst)
  table_at log v e k =
      ap (λ cells. get_or (steps A r log cells) k A.worst) (fill_by_all (λ j. get_or v j A.worst) v (cell_count r) A.worst e (λ j h. refl))
      ∙ smooth_row L (cell_smooth log k) (λ j. get_or v j A.worst)

  table_joined : (log others : List (Heard S)) (k corner : ℕ)
      → table_of A r (log ++ others) k corner ≡ at A (cell_count r) (table_of A r log k) (λ j. table_of A r others j corner)
  table_joined log others k corner = ap (λ cells. get_or cells k A.worst) (steps_joined A r log others (corner_cells A (cell_count r) corner))
      ∙ table_at log _ (steps_length A r others _ (length-map-range_with_len (at_corner A corner) 0 (cell_count r))) k

-- every lawful scale has the laws of tables
pub table_laws : {S : Type 0} {A : Algebra S} → Lawful A → TableLaws A
table_laws {S} {A} L = record {
  determined = λ r p log v e k h. table_at L r p log v e k;
  rises = λ r p log k h. smooth_row_rises L (cell_smooth L r p log k);
  joined = λ r p log others k corner h l. table_joined L r p log others k corner;
  empty_log = λ r k corner h. get_or-map-range_with_len (at_corner A corner) 0 (cell_count r) k k A.worst h (omega arith);
}
