-- A walk over bytes that keeps what is left to be read and the rule that comes of it. Assumes nothing.
use Rattle.std.proofs.Common.{◌≡◌, ℕ, ◌+◌, ◌*◌, ◌/◌, ◌%◌, ◌<◌, ◌≤◌, Bool, true, false, List, [], ◌∷◌, ◌++◌, length, Some, None, Option, sym, refl, ap, ◌∙◌, subst, ap₂, ⊎_elim, arith, lit<}
use Rattle.rule.specs.declared.leaf.Channel.{Channel}
use Rattle.rule.specs.declared.leaf.Kind.{Kind}
use Rattle.rule.specs.declared.leaf.Kind.TheVariants.{SomeStrong, SomeWeak, EveryStrong, EveryWeak}
use Rattle.rule.specs.Machine.{Want, rule, segment, kind, tens, ones, opens, weight, run}
use Rattle.rule.specs.Reading.{nodes_from}
use Rattle.rule.specs.Spelling.{digits, test_of, spelled_kind, spelled_segment, spelled}
use Rattle.rule.specs.Tree.{Segment, single, either, chain, star, Rule, letter, negated, both, any, next, until, release}
use Rattle.std.proofs.lemmas.List.{append_assoc}
use Rattle.std.specs.Option.{option_and_then}
use Rattle.std.proofs.lemmas.Bool.{cases_lt, ne_eqb}
use Rattle.std.proofs.lemmas.Option.{none-some, same_Some}
use Rattle.rule.proofs.Shapes.{What, Forest, spells, sizes, front, back, spells_append, sizes_append, is_kind, flag, Good, good_append, flag_append, added_weight, digit_of, Shape, digit_to, test, shape, shape_fits, opens_shape, mores, given_true, channel_path, channel_of}

-- what is left to be read, and the rule that what is read there completes
abbrev pub State : Type 0
State = (ws : List Want) × (Forest ws → Rule)

abbrev pub joined : (w : Want) (ws : List Want) (k : Forest (w ∷ ws) → Rule) (s : Shape w) → Forest (s.0 ++ ws) → Rule
joined w ws k s f = k (s.1 (front s.0 ws f), back s.0 ws f)

abbrev pub walk : (ws : List Want) → (Forest ws → Rule) → List ℕ → Option State
walk ws k [] = Some (ws, k)
walk [] k (b ∷ bs) = None
walk (w ∷ ws) k (b ∷ bs) = option_and_then (λ s. walk (s.0 ++ ws) (joined w ws k s) bs) (shape w b)

-- a walk over two texts
pub walk_append : (xs : List ℕ) (ws : List Want) (k : Forest ws → Rule) (ys : List ℕ) → walk ws k (xs ++ ys) ≡ option_and_then (λ s. walk s.0 s.1 ys) (walk ws k xs)
walk_append [] ws k ys = refl
walk_append (b ∷ xs) [] k ys = refl
walk_append (b ∷ xs) (w ∷ ws) k ys = go (shape w b) (λ s. walk_append xs (s.0 ++ ws) (joined w ws k s) ys)
  where
    go : (o : Option (Shape w)) → ((s : Shape w) → walk (s.0 ++ ws) (joined w ws k s) (xs ++ ys) ≡ option_and_then (λ s. walk s.0 s.1 ys) (walk (s.0 ++ ws) (joined w ws k s) xs))
        → option_and_then (λ s. walk (s.0 ++ ws) (joined w ws k s) (xs ++ ys)) o ≡ option_and_then (λ s. walk s.0 s.1 ys) (option_and_then (λ s. walk (s.0 ++ ws) (joined w ws k s) xs) o)
    go None e = refl
    go (Some s) e = e s

-- each thing is read as itself
reads_one : (m : ℕ) (d : What (ones m)) (ws : List Want) (k : Forest (ones m ∷ ws) → Rule) (bs : List ℕ) → walk (ones m ∷ ws) k (d.0 ∷ bs) ≡ walk ws (λ f. k (d, f)) bs
reads_one m d ws k bs = rw (given_true (digit_to m d.0) d.1)

reads_channel : (c : Channel) (ws : List Want) (k : Forest (tens ∷ ws) → Rule) (bs : List ℕ) → walk (tens ∷ ws) k (digits c ++ bs) ≡ walk ws (λ f. k (c, f)) bs
reads_channel c ws k bs = ⊎_elim (λ l. go 9 0 (lit< tt) 48 refl (λ k bs. refl) (omega arith) (omega arith)) (λ l. go 5 1 (lit< tt) 49 refl (λ k bs. refl) (omega arith) (omega arith)) (cases_lt c.number 10)
  where
    go : (m t : ℕ) (h : 10 * t + m < 16) (b : ℕ) → b ≡ 48 + t → ((k : Forest (tens ∷ ws) → Rule) (bs : List ℕ) → walk (tens ∷ ws) k (b ∷ bs) ≡ walk (ones m ∷ ws) (λ f. k (channel_of m t h f.0, f.1)) bs)
        → (c.number / 10 ≡ t) → (c.number % 10 ≤ m) → walk (tens ∷ ws) k (digits c ++ bs) ≡ walk ws (λ f. k (c, f)) bs
    go m t h b e first p q =
        let d : What (ones m) = (48 + c.number % 10, digit_of m (48 + c.number % 10) (omega arith) (omega arith)) in
        let first_digit : 48 + c.number / 10 ≡ b = omega arith in
        let same = channel_path (channel_of m t h d) c (omega arith) in
        ap (λ (x : ℕ). walk (tens ∷ ws) k (x ∷ (48 + c.number % 10) ∷ bs)) first_digit ∙ first k ((48 + c.number % 10) ∷ bs) ∙ reads_one m d ws (λ f. k (channel_of m t h f.0, f.1)) bs ∙ ap (λ (x : Channel). walk ws (λ f. k (x, f)) bs) same

reads_kind : (κ : Kind) (ws : List Want) (k : Forest (kind ∷ ws) → Rule) (bs : List ℕ) → walk (kind ∷ ws) k (spelled_kind κ ++ bs) ≡ walk ws (λ f. k (κ, f)) bs
reads_kind SomeStrong ws k bs = refl
reads_kind SomeWeak ws k bs = refl
reads_kind EveryStrong ws k bs = refl
reads_kind EveryWeak ws k bs = refl

single_reads : (o : Option Channel) (x : Bool) (ws : List Want) (k : Forest (segment ∷ ws) → Rule) (bs : List ℕ) → walk (segment ∷ ws) k (test_of o x ++ bs) ≡ walk ws (λ f. k (single (test o x), f)) bs
single_reads None false ws k bs = refl
single_reads None true ws k bs = refl
single_reads (Some c) false ws k bs = simp (reads_channel c)
single_reads (Some c) true ws k bs = simp (reads_channel c)

letter_reads : (o : Option Channel) (x : Bool) (ws : List Want) (k : Forest (rule ∷ ws) → Rule) (bs : List ℕ) → walk (rule ∷ ws) k (test_of o x ++ bs) ≡ walk ws (λ f. k (letter (test o x), f)) bs
letter_reads None false ws k bs = refl
letter_reads None true ws k bs = refl
letter_reads (Some c) false ws k bs = simp (reads_channel c)
letter_reads (Some c) true ws k bs = simp (reads_channel c)

reads_segment : (a : Segment) (ws : List Want) (k : Forest (segment ∷ ws) → Rule) (bs : List ℕ) → walk (segment ∷ ws) k (spelled_segment a ++ bs) ≡ walk ws (λ f. k (a, f)) bs
reads_segment (single t) ws k bs = single_reads t.channel t.opposite ws k bs
reads_segment (either a b) ws k bs = simp (append_assoc (spelled_segment a) (spelled_segment b) bs, reads_segment a, reads_segment b)
reads_segment (chain a b) ws k bs = simp (append_assoc (spelled_segment a) (spelled_segment b) bs, reads_segment a, reads_segment b)
reads_segment (star a b) ws k bs = simp (append_assoc (spelled_segment a) (spelled_segment b) bs, reads_segment a, reads_segment b)

regroup : (κ : Kind) (r : Rule) (a : Segment) (s : Rule) (bs : List ℕ)
    → (spelled_kind κ ++ spelled r ++ spelled_segment a ++ spelled s) ++ bs ≡ spelled_kind κ ++ (spelled r ++ (spelled_segment a ++ (spelled s ++ bs)))
regroup κ r a s bs = simp append_assoc

pub reads_rule : (r : Rule) (ws : List Want) (k : Forest (rule ∷ ws) → Rule) (bs : List ℕ) → walk (rule ∷ ws) k (spelled r ++ bs) ≡ walk ws (λ f. k (r, f)) bs
reads_rule (letter t) ws k bs = letter_reads t.channel t.opposite ws k bs
reads_rule (negated r) ws k bs = simp (reads_rule r)
reads_rule (both r s) ws k bs = simp (append_assoc (spelled r) (spelled s) bs, reads_rule r, reads_rule s)
reads_rule (any r s) ws k bs = simp (append_assoc (spelled r) (spelled s) bs, reads_rule r, reads_rule s)
reads_rule (next SomeStrong a r) ws k bs = simp (append_assoc (spelled_segment a) (spelled r) bs, reads_segment a, reads_rule r)
reads_rule (next SomeWeak a r) ws k bs = simp (append_assoc (spelled_segment a) (spelled r) bs, reads_segment a, reads_rule r)
reads_rule (next EveryStrong a r) ws k bs = simp (append_assoc (spelled_segment a) (spelled r) bs, reads_segment a, reads_rule r)
reads_rule (next EveryWeak a r) ws k bs = simp (append_assoc (spelled_segment a) (spelled r) bs, reads_segment a, reads_rule r)
reads_rule (until κ r a s) ws k bs = simp (regroup κ r a s bs, reads_kind κ, reads_rule r, reads_segment a, reads_rule s)
reads_rule (release κ r a s) ws k bs = simp (regroup κ r a s bs, reads_kind κ, reads_rule r, reads_segment a, reads_rule s)

-- the walk of a whole text
abbrev pub start : List ℕ → Option State
start t = walk (rule ∷ []) (λ f. f.0) t

-- what a walk over xs comes to: the rule made is spelled by xs and what is read after it, with the nodes of both; and the machine does the same
pub record Walked (ws : List Want) (k : Forest ws → Rule) (xs : List ℕ) (s : State) : Type 0 where
  pub good : Good s.0
  pub made : (f : Forest s.0) → (g : Forest ws) × (k g ≡ s.1 f) × (spells ws g ≡ xs ++ spells s.0 f) × (sizes ws g ≡ nodes_from (flag ws) xs + sizes s.0 f)
  pub count : (ys : List ℕ) → nodes_from (flag ws) (xs ++ ys) ≡ nodes_from (flag ws) xs + nodes_from (flag s.0) ys
  pub runs : (n p : ℕ) (rest : List Want) (bs : List ℕ) → n + nodes_from (flag ws) xs ≤ 48
      → run n p (ws ++ rest) (xs ++ bs) ≡ run (n + nodes_from (flag ws) xs) (p + length xs) (s.0 ++ rest) bs

pub run_step : (n p : ℕ) (w : Want) (ws : List Want) (b : ℕ) (bs : List ℕ) (more : List Want) → opens w b ≡ Some more → n + weight w ≤ 48
    → run n p (w ∷ ws) (b ∷ bs) ≡ run (n + weight w) (p + 1) (more ++ ws) bs
unfolding run
run_step n p w ws b bs more e l = rw (e, ne_eqb (n + weight w) 49 (λ q. omega arith))

-- one byte's nodes
pub step_count : (w : Want) (ws : List Want) (b : ℕ) (s : Shape w) (bs : List ℕ) → Good (w ∷ ws) → shape w b ≡ Some s
    → nodes_from (is_kind w) (b ∷ bs) ≡ nodes_from (flag (s.0 ++ ws)) bs + weight w
step_count w ws b s bs h e = rw (flag_append s.0 ws h.1) ((shape_fits w b s h.0 e).count bs ∙ added_weight w _)

pub walked : (xs : List ℕ) (ws : List Want) (k : Forest ws → Rule) (s : State) → Good ws → walk ws k xs ≡ Some s → Walked ws k xs s
walked [] ws k s h e = subst (Walked ws k []) (same_Some _ _ e) (record { good = h; made = λ f. (f, refl, refl, omega arith); count = λ ys. omega arith; runs = λ n p rest bs l. ap₂ (λ (m q : ℕ). run m q (ws ++ rest) bs) (omega arith) (omega arith) })
walked (b ∷ xs) [] k s h e = absurd (none-some _ e)
walked (b ∷ xs) (w ∷ ws) k s h e = go (shape w b) refl e (λ σ. walked xs (σ.0 ++ ws) (joined w ws k σ) s)
  where
    step : (σ : Shape w) → shape w b ≡ Some σ → Walked (σ.0 ++ ws) (joined w ws k σ) xs s → Walked (w ∷ ws) k (b ∷ xs) s
    step σ q W = let F = shape_fits w b σ h.0 q in record {
      good = W.good;
      made = λ f. let (g, e₁, e₂, e₃) = W.made f in (
        (σ.1 (front σ.0 ws g), back σ.0 ws g),
        e₁,
        ap {B = List ℕ} (λ l. l ++ spells ws (back σ.0 ws g)) (F.spelt (front σ.0 ws g)) ∙ ap {B = List ℕ} (λ l. b ∷ l) (sym (spells_append σ.0 ws g) ∙ e₂),
        omega (arith, F.sized (front σ.0 ws g), added_weight w (sizes σ.0 (front σ.0 ws g)), sizes_append σ.0 ws g, step_count w ws b σ xs h q),
      );
      count = λ ys. omega (arith, step_count w ws b σ xs h q, step_count w ws b σ (xs ++ ys) h q, W.count ys);
      runs = λ n p rest bs l. let c = step_count w ws b σ xs h q in
          run_step n p w (ws ++ rest) b (xs ++ bs) σ.0 (opens_shape w b ∙ ap (mores w) q) (omega arith)
          ∙ rw (← (append_assoc σ.0 ws rest)) (W.runs (n + weight w) (p + 1) rest bs (omega arith) ∙ ap₂ (λ (m q : ℕ). run m q (s.0 ++ rest) bs) (omega arith) (omega arith));
    }

    go : (o : Option (Shape w)) → shape w b ≡ o → option_and_then (λ s. walk (s.0 ++ ws) (joined w ws k s) xs) o ≡ Some s
        → ((σ : Shape w) → Good (σ.0 ++ ws) → walk (σ.0 ++ ws) (joined w ws k σ) xs ≡ Some s → Walked (σ.0 ++ ws) (joined w ws k σ) xs s) → Walked (w ∷ ws) k (b ∷ xs) s
    go None q e rest = absurd (none-some _ e)
    go (Some σ) q e rest = step σ q (rest σ (good_append σ.0 ws (shape_fits w b σ h.0 q).good h.1) e)
