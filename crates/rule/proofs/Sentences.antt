-- The end of the reader's run says which answer a text has, and no other: sentences and beginnings of sentences. Assumes nothing.
use Rattle.std.proofs.Common.{◌≡◌, ℕ, ◌+◌, ◌<◌, ◌≤◌, Bool, true, false, eqb, List, [], ◌∷◌, ◌++◌, length, get_or, take, drop, Some, None, Option, sym, refl, ap, ◌∙◌, subst, subst₂, zero-add, arith, length-append}
use Rattle.fault.specs.declared.TextCause.{TextCause}
use Rattle.fault.specs.declared.TextCause.TheVariants.{Length, Byte, Early, LeftOver, Nodes, Hexadecimal}
use Rattle.rule.specs.declared.leaf.Kind.TheVariants.{SomeStrong}
use Rattle.rule.specs.Machine.{Want, rule, segment, kind, tens, ones, weight, done, stop, run}
use Rattle.rule.specs.Reading.{Sentence, Begins, nodes, Fitting, BadByte, EndsEarly, BytesLeft, ManyNodes, Means, Answer, accepted, refused, Holds, Only}
use Rattle.rule.specs.Size.{size}
use Rattle.rule.specs.Spelling.{spelled}
use Rattle.rule.specs.Tree as plain
use Rattle.std.proofs.lemmas.List.{append_assoc, append-nil, take-append-drop, length-take-le, drop_more, length_push}
use Rattle.std.specs.Option.{option_and_then}
use Rattle.std.proofs.Math.Seq.{take-append_seam, take-append-add}
use Rattle.std.proofs.lemmas.Bool.{eqb-true, eqb-false, eq-eqb}
use Rattle.std.proofs.lemmas.Option.{none-some, option_and_then_some}
use Rattle.rule.proofs.Shapes.{What, Forest, spells, test, digit_of, Shape, shape, opens_shape, mores, light}
use Rattle.rule.proofs.Walk.{State, joined, walk, walk_append, reads_rule, start, Walked, walked, step_count, run_step}

-- something for each want
abbrev sample : (w : Want) → What w
sample rule = plain.letter (test None false)
sample segment = plain.single (test None false)
sample kind = SomeStrong
sample tens = record { number = 0; few = omega arith }
sample (ones m) = (48, digit_of m 48 (omega arith) (omega arith))

abbrev samples : (ws : List Want) → Forest ws
samples [] = tt
samples (w ∷ ws) = (sample w, samples ws)

-- what the walk over a text knows
known : (xs : List ℕ) (s : State) → start xs ≡ Some s → Walked (rule ∷ []) (λ f. f.0) xs s
known xs s e = walked xs (rule ∷ []) (λ f. f.0) s (tt, tt) e

walk_front : (xs ys : List ℕ) (s : State) → start (xs ++ ys) ≡ Some s → (σ : State) × (start xs ≡ Some σ) × (walk σ.0 σ.1 ys ≡ Some s)
walk_front xs ys s e = option_and_then_some _ (start xs) s (sym (walk_append xs (rule ∷ []) (λ f. f.0) ys) ∙ e) (λ σ e₁ e₂. (σ, e₁, e₂))

-- a sentence is what is walked to the end, and its rule is the one made
from_sentence : (r : plain.Rule) → start (spelled r) ≡ Some ([], λ f. r)
from_sentence r = rw append-nil at (reads_rule r [] (λ f. f.0) [])

abbrev rule_of : Option State → plain.Rule
rule_of None = sample rule
rule_of (Some s) = s.1 (samples s.0)

-- the rule that a text spells; of a text that spells none, some rule
pub named : List ℕ → plain.Rule
named xs = rule_of (start xs)

pub named_spelled : (r : plain.Rule) → named (spelled r) ≡ r
unfolding named
named_spelled r = ap rule_of (from_sentence r)

-- no text is the spelling of two rules
pub one_reading : (r s : plain.Rule) → spelled r ≡ spelled s → r ≡ s
one_reading r s e = sym (named_spelled r) ∙ ap named e ∙ named_spelled s

to_sentence : (xs : List ℕ) (s : State) → start xs ≡ Some s → (f : Forest s.0) → Sentence (xs ++ spells s.0 f)
to_sentence xs s e f = let (g, e₁, e₂, e₃) = (known xs s e).made f in (g.0, sym (append-nil (spelled g.0)) ∙ e₂)

finished : (xs : List ℕ) (k : Forest [] → plain.Rule) → start xs ≡ Some ([], k) → Sentence xs
finished xs k e = rw append-nil at (to_sentence xs ([], k) e tt)

to_begins : (xs : List ℕ) (s : State) → start xs ≡ Some s → Begins xs
to_begins xs s e = (spells s.0 (samples s.0), to_sentence xs s e (samples s.0))

from_begins : (xs : List ℕ) → Begins xs → (s : State) × (start xs ≡ Some s)
from_begins xs (more, (r, e)) = let (s, e₁, e₂) = walk_front xs more _ (ap start (sym e) ∙ from_sentence r) in (s, e₁)

-- a rule's text has as many nodes as the rule
pub nodes_spelled : (r : plain.Rule) → nodes (spelled r) ≡ size r
nodes_spelled r = let (g, e₁, e₂, e₃) = (known (spelled r) ([], λ f. r) (from_sentence r)).made tt in omega (arith, ap size e₁)

-- the machine reads a rule's text, if that has no 49th node
pub run_rule : (r : plain.Rule) (n p : ℕ) (ws : List Want) (bs : List ℕ) → n + size r ≤ 48
    → run n p (rule ∷ ws) (spelled r ++ bs) ≡ run (n + size r) (p + length (spelled r)) ws bs
run_rule r n p ws bs h = rw (nodes_spelled r) at ((known (spelled r) ([], λ f. r) (from_sentence r)).runs n p ws bs (rw (nodes_spelled r) h))

-- where a run stops at once: the wants, the bytes and the cause; m nodes stand before
data Final (m : ℕ) : List Want → List ℕ → TextCause → Type 0 where
  ends : (w : Want) (ws : List Want) → Final m (w ∷ ws) [] Early
  left : (b : ℕ) (bs : List ℕ) → Final m [] (b ∷ bs) LeftOver
  bad : (w : Want) (ws : List Want) (b : ℕ) (bs : List ℕ) → shape w b ≡ None → Final m (w ∷ ws) (b ∷ bs) Byte
  many : (w : Want) (ws : List Want) (b : ℕ) (bs : List ℕ) (s : Shape w) → shape w b ≡ Some s → m + weight w ≡ 49 → Final m (w ∷ ws) (b ∷ bs) Nodes

final_run : (m p : ℕ) (ws : List Want) (bs : List ℕ) (cause : TextCause) → Final m ws bs cause → run m p ws bs ≡ stop cause p
unfolding run
final_run m p ws bs cause (ends w vs) = refl
final_run m p ws bs cause (left b cs) = refl
final_run m p ws bs cause (bad w vs b cs e) = rw (opens_shape w b ∙ ap (mores w) e)
final_run m p ws bs cause (many w vs b cs s e l) = rw (opens_shape w b ∙ ap (mores w) e, eq-eqb (m + weight w) 49 l)

-- the run of a text that stops after xs
halts : (xs ys : List ℕ) (s : State) (cause : TextCause) → start xs ≡ Some s → nodes xs ≤ 48 → Final (nodes xs) s.0 ys cause → run 0 0 (rule ∷ []) (xs ++ ys) ≡ stop cause (length xs)
halts xs ys s cause e few f = simp (zero-add, append-nil) at ((known xs s e).runs 0 0 [] ys (omega arith)) ∙ final_run (nodes xs) (length xs) s.0 ys cause f

-- one byte more
walk_on : (xs : List ℕ) (w : Want) (ws : List Want) (k : Forest (w ∷ ws) → plain.Rule) (b : ℕ) → start xs ≡ Some (w ∷ ws, k)
    → start (xs ++ b ∷ []) ≡ option_and_then (λ s. Some (s.0 ++ ws, joined w ws k s)) (shape w b)
walk_on xs w ws k b e = walk_append xs (rule ∷ []) (λ f. f.0) (b ∷ []) ∙ ap (λ (o : Option State). option_and_then (λ s. walk s.0 s.1 (b ∷ [])) o) e

step : (xs : List ℕ) (w : Want) (ws : List Want) (k : Forest (w ∷ ws) → plain.Rule) (b : ℕ) (σ : Shape w) → start xs ≡ Some (w ∷ ws, k) → shape w b ≡ Some σ
    → (start (xs ++ b ∷ []) ≡ Some (σ.0 ++ ws, joined w ws k σ)) × (nodes (xs ++ b ∷ []) ≡ nodes xs + weight w)
step xs w ws k b σ e q = (
  walk_on xs w ws k b e ∙ ap (λ (o : Option (Shape w)). option_and_then (λ s. Some (s.0 ++ ws, joined w ws k s)) o) q,
  omega (arith, (known xs (w ∷ ws, k) e).count (b ∷ []), step_count w ws b σ [] (known xs (w ∷ ws, k) e).good q),
)

stuck : (xs : List ℕ) (w : Want) (ws : List Want) (k : Forest (w ∷ ws) → plain.Rule) (b : ℕ) → start xs ≡ Some (w ∷ ws, k) → shape w b ≡ None → Begins (xs ++ b ∷ []) → ⊥
stuck xs w ws k b e q B =
    none-some _ (sym (walk_on xs w ws k b e ∙ ap (λ (o : Option (Shape w)). option_and_then (λ s. Some (s.0 ++ ws, joined w ws k s)) o) q) ∙ (from_begins (xs ++ b ∷ []) B).1)

abbrev wanted : Option State → ℕ
wanted None = 0
wanted (Some s) = length s.0

unfinished : (xs : List ℕ) (w : Want) (ws : List Want) (k : Forest (w ∷ ws) → plain.Rule) → start xs ≡ Some (w ∷ ws, k) → Sentence xs → ⊥
unfinished xs w ws k e (r, q) = omega (arith, ap wanted (sym e ∙ ap start (sym q) ∙ from_sentence r))

inside : (xs : List ℕ) (b : ℕ) (bs : List ℕ) → length xs < length (xs ++ b ∷ bs)
inside xs b bs = omega (arith, length-append xs (b ∷ bs))

means : (xs ys : List ℕ) (ws : List Want) (k : Forest ws → plain.Rule) (cause : TextCause) → Fitting (xs ++ ys) → start xs ≡ Some (ws, k) → nodes xs ≤ 48 → Final (nodes xs) ws ys cause
    → Means (xs ++ ys) cause (length xs)
means xs ys ws k cause fit e few (ends w vs) = subst (λ (t : List ℕ). EndsEarly t (length xs)) (sym (append-nil xs)) (record { fitting = subst Fitting (append-nil xs) fit; end = refl; begun = to_begins xs _ e; few = few; short = unfinished xs w vs k e })
means xs ys ws k cause fit e few (left b cs) = record { fitting = fit; inside = inside xs b cs; sentence = rw take-append_seam (finished xs k e); few = rw take-append_seam few }
means xs ys ws k cause fit e few (bad w vs b cs q) =
    record { fitting = fit; inside = inside xs b cs; begun = rw take-append_seam (to_begins xs _ e); short = rw take-append_seam (unfinished xs w vs k e); few = rw take-append_seam few; lost = rw take-append-add (stuck xs w vs k b e q) }
means xs ys ws k cause fit e few (many w vs b cs σ q l) =
    let (e₁, e₂) = step xs w vs k b σ e q in
    record { fitting = fit; inside = inside xs b cs; full = rw take-append_seam (omega (arith, light w)); begun = rw take-append-add (to_begins (xs ++ b ∷ []) _ e₁); over = rw take-append-add (e₂ ∙ l) }

run_done : (n p : ℕ) → run n p [] [] ≡ done
unfolding run
run_done n p = refl

same_end : (c d : TextCause) (p q : ℕ) → stop c p ≡ stop d q → (c ≡ d) × (p ≡ q)
same_end c d p q e = (cc, cc)

not_done : (c : TextCause) (p : ℕ) → done ≡ stop c p → ⊥
not_done c p e = cc

final_means : (xs ys : List ℕ) (ws : List Want) (k : Forest ws → plain.Rule) (c cause : TextCause) (p : ℕ) → Fitting (xs ++ ys) → start xs ≡ Some (ws, k) → nodes xs ≤ 48
    → Final (nodes xs) ws ys c → run (nodes xs) (length xs) ws ys ≡ stop cause p → Means (xs ++ ys) cause p
final_means xs ys ws k c cause p fit e few f r =
    let (e₁, e₂) = same_end c cause (length xs) p (sym (final_run (nodes xs) (length xs) ws ys c f) ∙ r) in
    subst₂ (Means (xs ++ ys)) e₁ e₂ (means xs ys ws k c fit e few f)

-- what a run that stops says of its text, from any state on the way
reaches : (ys xs : List ℕ) (ws : List Want) (k : Forest ws → plain.Rule) (cause : TextCause) (p : ℕ) → Fitting (xs ++ ys) → start xs ≡ Some (ws, k) → nodes xs ≤ 48
    → run (nodes xs) (length xs) ws ys ≡ stop cause p → Means (xs ++ ys) cause p
reaches [] xs [] k cause p fit e few r = absurd (not_done cause p (sym (run_done _ _) ∙ r))
reaches [] xs (w ∷ ws) k cause p fit e few r = final_means xs [] (w ∷ ws) k Early cause p fit e few (ends w ws) r
reaches (b ∷ ys) xs [] k cause p fit e few r = final_means xs (b ∷ ys) [] k LeftOver cause p fit e few (left b ys) r
reaches (b ∷ ys) xs (w ∷ ws) k cause p fit e few r = meets (shape w b) refl (λ σ. reaches ys (xs ++ b ∷ []) (σ.0 ++ ws) (joined w ws k σ) cause p)
  where
    counts : (σ : Shape w) → shape w b ≡ Some σ → (x : Bool) → eqb (nodes xs + weight w) 49 ≡ x
        → (Fitting ((xs ++ b ∷ []) ++ ys) → start (xs ++ b ∷ []) ≡ Some (σ.0 ++ ws, joined w ws k σ) → nodes (xs ++ b ∷ []) ≤ 48
        → run (nodes (xs ++ b ∷ [])) (length (xs ++ b ∷ [])) (σ.0 ++ ws) ys ≡ stop cause p → Means ((xs ++ b ∷ []) ++ ys) cause p)
        → Means (xs ++ b ∷ ys) cause p
    counts σ q true l rest = final_means xs (b ∷ ys) (w ∷ ws) k Nodes cause p fit e few (many w ws b ys σ q (eqb-true _ _ l)) r
    counts σ q false l rest =
        let (e₁, e₂) = step xs w ws k b σ e q in
        let few' : nodes xs + weight w ≤ 48 = omega (arith, light w, eqb-false _ _ l) in
        let r' = run_step (nodes xs) (length xs) w ws b ys σ.0 (opens_shape w b ∙ ap (mores w) q) few' in
        rw (append_assoc xs (b ∷ []) ys) at (rest (rw append_assoc fit) e₁ (omega arith) (rw (e₂, length_push xs b) (sym r' ∙ r)))

    meets : (o : Option (Shape w)) → shape w b ≡ o
        → ((σ : Shape w) → Fitting ((xs ++ b ∷ []) ++ ys) → start (xs ++ b ∷ []) ≡ Some (σ.0 ++ ws, joined w ws k σ) → nodes (xs ++ b ∷ []) ≤ 48
        → run (nodes (xs ++ b ∷ [])) (length (xs ++ b ∷ [])) (σ.0 ++ ws) ys ≡ stop cause p → Means ((xs ++ b ∷ []) ++ ys) cause p)
        → Means (xs ++ b ∷ ys) cause p
    meets None q rest = final_means xs (b ∷ ys) (w ∷ ws) k Byte cause p fit e few (bad w ws b ys q) r
    meets (Some σ) q rest = counts σ q (eqb (nodes xs + weight w) 49) refl (rest σ)

bad_run : (xs : List ℕ) (b : ℕ) (bs : List ℕ) → BadByte (xs ++ b ∷ bs) (length xs) → run 0 0 (rule ∷ []) (xs ++ b ∷ bs) ≡ stop Byte (length xs)
bad_run xs b bs m = let (s, e) = from_begins xs (rw (take-append_seam xs (b ∷ bs)) at m.begun) in go s.0 s.1 e
  where
    here : (w : Want) (ws : List Want) (k : Forest (w ∷ ws) → plain.Rule) → start xs ≡ Some (w ∷ ws, k) → (o : Option (Shape w)) → shape w b ≡ o → run 0 0 (rule ∷ []) (xs ++ b ∷ bs) ≡ stop Byte (length xs)
    here w ws k e None q = halts xs (b ∷ bs) (w ∷ ws, k) Byte e (rw (take-append_seam xs (b ∷ bs)) at m.few) (bad w ws b bs q)
    here w ws k e (Some σ) q = absurd (m.lost (rw take-append-add (to_begins (xs ++ b ∷ []) _ (step xs w ws k b σ e q).0)))

    go : (ws : List Want) (k : Forest ws → plain.Rule) → start xs ≡ Some (ws, k) → run 0 0 (rule ∷ []) (xs ++ b ∷ bs) ≡ stop Byte (length xs)
    go [] k e = absurd (m.short (rw take-append_seam (finished xs k e)))
    go (w ∷ ws) k e = here w ws k e (shape w b) refl

left_run : (xs : List ℕ) (b : ℕ) (bs : List ℕ) → BytesLeft (xs ++ b ∷ bs) (length xs) → run 0 0 (rule ∷ []) (xs ++ b ∷ bs) ≡ stop LeftOver (length xs)
left_run xs b bs m = let (r, e) = m.sentence in
    halts xs (b ∷ bs) ([], λ f. r) LeftOver (ap start (sym (e ∙ take-append_seam xs (b ∷ bs))) ∙ from_sentence r) (rw (take-append_seam xs (b ∷ bs)) at m.few) (left b bs)

many_run : (xs : List ℕ) (b : ℕ) (bs : List ℕ) → ManyNodes (xs ++ b ∷ bs) (length xs) → run 0 0 (rule ∷ []) (xs ++ b ∷ bs) ≡ stop Nodes (length xs)
many_run xs b bs m =
    let (s, e) = from_begins (xs ++ b ∷ []) (rw (take-append-add xs (b ∷ bs) 1) at m.begun) in
    let (σ, e₁, e₂) = walk_front xs (b ∷ []) s e in go s σ.0 σ.1 e₁ e₂
  where
    go : (s : State) (ws : List Want) (k : Forest ws → plain.Rule) → start xs ≡ Some (ws, k) → walk ws k (b ∷ []) ≡ Some s → run 0 0 (rule ∷ []) (xs ++ b ∷ bs) ≡ stop Nodes (length xs)
    go s [] k e q = absurd (none-some _ q)
    go s (w ∷ ws) k e q = option_and_then_some _ (shape w b) s q (λ σ q₁ q₂.
        let full : nodes xs ≡ 48 = rw (take-append_seam xs (b ∷ bs)) at m.full in
        let over : nodes (xs ++ b ∷ []) ≡ 49 = rw (take-append-add xs (b ∷ bs) 1) at m.over in
        halts xs (b ∷ bs) (w ∷ ws, k) Nodes e (omega arith) (many w ws b bs σ q₁ (sym (step xs w ws k b σ e q₁).1 ∙ over)))

early_run : (t : List ℕ) (p : ℕ) → EndsEarly t p → run 0 0 (rule ∷ []) t ≡ stop Early p
early_run t p m = let (s, e) = from_begins t m.begun in go s.0 s.1 e
  where
    go : (ws : List Want) (k : Forest ws → plain.Rule) → start t ≡ Some (ws, k) → run 0 0 (rule ∷ []) t ≡ stop Early p
    go [] k e = absurd (m.short (finished t k e))
    go (w ∷ ws) k e = rw (append-nil t, ← m.end) at (halts t [] (w ∷ ws, k) Early e m.few (ends w ws))

-- a byte of a text, with what stands before and after it
at_place : (P : List ℕ → ℕ → Type 0) → ((xs : List ℕ) (b : ℕ) (bs : List ℕ) → P (xs ++ b ∷ bs) (length xs)) → (t : List ℕ) (p : ℕ) → p < length t → P t p
at_place P h t p l = subst₂ P (sym (ap (λ (l : List ℕ). take p t ++ l) (drop_more t p 0 l)) ∙ take-append-drop p t) (length-take-le p t (omega arith)) (h (take p t) (get_or t p 0) (drop (p + 1) t))

-- what a refusal means decides the end of the run
fixes : (t : List ℕ) (cause : TextCause) (p : ℕ) → Fitting t → Means t cause p → run 0 0 (rule ∷ []) t ≡ stop cause p
fixes t Length p fit m = absurd (omega arith)
fixes t Byte p fit m = at_place (λ t p. BadByte t p → run 0 0 (rule ∷ []) t ≡ stop Byte p) bad_run t p m.inside m
fixes t Early p fit m = early_run t p m
fixes t LeftOver p fit m = at_place (λ t p. BytesLeft t p → run 0 0 (rule ∷ []) t ≡ stop LeftOver p) left_run t p m.inside m
fixes t Nodes p fit m = at_place (λ t p. ManyNodes t p → run 0 0 (rule ∷ []) t ≡ stop Nodes p) many_run t p m.inside m
fixes t Hexadecimal p fit m = elim m [ ]

finishes : (t : List ℕ) (r : plain.Rule) → spelled r ≡ t → nodes t ≤ 48 → run 0 0 (rule ∷ []) t ≡ done
finishes t r e few = ap (run 0 0 (rule ∷ [])) (sym (append-nil (spelled r) ∙ e)) ∙ run_rule r 0 0 [] [] (omega (arith, nodes_spelled r, ap nodes e)) ∙ run_done _ _

-- a run that stops: the text is refused so, and has no other answer
pub stopped : (t : List ℕ) (cause : TextCause) (p : ℕ) → Fitting t → run 0 0 (rule ∷ []) t ≡ stop cause p → Only t (refused cause p)
stopped t cause p fit e = (reaches t [] (rule ∷ []) (λ f. f.0) cause p fit refl (omega arith) e, others)
  where
    others : (b : Answer) → Holds t b → b ≡ refused cause p
    others (accepted r) h = absurd (not_done cause p (sym (finishes t r h.spelling h.few) ∙ e))
    others (refused c q) h = let (e₁, e₂) = same_end c cause q p (sym (fixes t c q fit h) ∙ e) in cc

-- the text of a rule of at most 48 nodes is accepted as this rule and no other
pub accepts : (t : List ℕ) (r : plain.Rule) → Fitting t → spelled r ≡ t → nodes t ≤ 48 → Only t (accepted r)
accepts t r fit e few = (record { fitting = fit; spelling = e; few = few }, others)
  where
    others : (b : Answer) → Holds t b → b ≡ accepted r
    others (accepted s) h = ap accepted (one_reading s r (h.spelling ∙ sym e))
    others (refused c q) h = absurd (not_done c q (sym (finishes t r e few) ∙ fixes t c q fit h))
