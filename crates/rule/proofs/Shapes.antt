-- What may stand for each want, and what each byte builds there: its spelling, its nodes and what it leaves to be read. Assumes nothing.
use Rattle.std.proofs.Common.{◌≡◌, ℕ, suc, ◌+◌, ◌-◌, ◌*◌, ◌/◌, ◌%◌, ◌<◌, ◌≤◌, Bool, true, false, cond, ◌&&◌, ◌||◌, T, eqb, leb, List, [], ◌∷◌, ◌++◌, Some, None, Option, sym, refl, ap, ◌∙◌, subst, arith, lit<, lit≤, le→leb, leb→le}
use native.Mathlib.Bridge.{le_prop}
use mathlib.Core.HLevel.{is_prop→PathP}
use Rattle.rule.specs.declared.leaf.Channel.{Channel}
use Rattle.rule.specs.declared.leaf.Kind.{Kind}
use Rattle.rule.specs.declared.leaf.Kind.TheVariants.{SomeStrong, SomeWeak, EveryStrong, EveryWeak}
use Rattle.rule.specs.declared.leaf.Test.{Test}
use Rattle.rule.specs.Machine.{Want, rule, segment, kind, tens, ones, opens, weight}
use Rattle.rule.specs.Reading.{is_digit, nodes_from}
use Rattle.rule.specs.Size.{size, segment_size}
use Rattle.rule.specs.Spelling.{digits, spelled_kind, spelled_segment, spelled}
use Rattle.rule.specs.Tree.{Segment, single, either, chain, star, Rule, letter, negated, both, any, next, until, release}
use Rattle.std.proofs.lemmas.List.{append_assoc, append-nil}
use Rattle.std.proofs.lemmas.Bool.{eqb-true, and_from, le-leb}
use Rattle.std.proofs.lemmas.Option.{none-some, same_Some}

-- is the byte a digit up to the number
abbrev pub digit_to : ℕ → ℕ → Bool
digit_to m b = leb 48 b && leb b (48 + m)

-- what is read for a want
abbrev pub What : Want → Type 0
What rule = Rule
What segment = Segment
What kind = Kind
What tens = Channel
What (ones m) = (b : ℕ) × T (digit_to m b)

abbrev pub spell : (w : Want) → What w → List ℕ
spell rule r = spelled r
spell segment a = spelled_segment a
spell kind k = spelled_kind k
spell tens c = digits c
spell (ones m) d = d.0 ∷ []

abbrev pub size_of : (w : Want) → What w → ℕ
size_of rule r = size r
size_of segment a = segment_size a
size_of kind k = 0
size_of tens c = 0
size_of (ones m) d = 0

-- one thing for each want of a list
abbrev pub Forest : List Want → Type 0
Forest [] = Unit {0}
Forest (w ∷ ws) = What w × Forest ws

abbrev pub spells : (ws : List Want) → Forest ws → List ℕ
spells [] f = []
spells (w ∷ ws) f = spell w f.0 ++ spells ws f.1

abbrev pub sizes : (ws : List Want) → Forest ws → ℕ
sizes [] f = 0
sizes (w ∷ ws) f = size_of w f.0 + sizes ws f.1

abbrev pub front : (us ws : List Want) → Forest (us ++ ws) → Forest us
front [] ws f = tt
front (u ∷ us) ws f = (f.0, front us ws f.1)

abbrev pub back : (us ws : List Want) → Forest (us ++ ws) → Forest ws
back [] ws f = f
back (u ∷ us) ws f = back us ws f.1

pub spells_append : (us ws : List Want) (f : Forest (us ++ ws)) → spells (us ++ ws) f ≡ spells us (front us ws f) ++ spells ws (back us ws f)
spells_append [] ws f = refl
spells_append (u ∷ us) ws f = ap {B = List ℕ} (λ l. spell u f.0 ++ l) (spells_append us ws f.1) ∙ sym (append_assoc (spell u f.0) _ _)

pub sizes_append : (us ws : List Want) (f : Forest (us ++ ws)) → sizes (us ++ ws) f ≡ sizes us (front us ws f) + sizes ws (back us ws f)
sizes_append [] ws f = omega arith
sizes_append (u ∷ us) ws f = let h = sizes_append us ws f.1 in omega arith

-- is the want a kind: then its byte is no node
abbrev pub is_kind : Want → Bool
is_kind rule = false
is_kind segment = false
is_kind kind = true
is_kind tens = false
is_kind (ones m) = false

-- is the next byte the kind of a `U` or `R`
abbrev pub flag : List Want → Bool
flag [] = false
flag (w ∷ ws) = is_kind w

-- a want at the top, and one below it: a kind stands only at the top
abbrev pub Top : Want → Type 0
Top rule = Unit {0}
Top segment = Unit {0}
Top kind = Unit {0}
Top tens = Unit {0}
Top (ones m) = m ≤ 9

abbrev pub Low : List Want → Type 0
Low [] = Unit {0}
Low (w ∷ ws) = Top w × (is_kind w ≡ false) × Low ws

abbrev pub Good : List Want → Type 0
Good [] = Unit {0}
Good (w ∷ ws) = Top w × Low ws

low_append : (us ws : List Want) → Low us → Low ws → Low (us ++ ws)
low_append [] ws h l = l
low_append (u ∷ us) ws h l = (h.0, h.1, low_append us ws h.2 l)

pub good_append : (us ws : List Want) → Good us → Low ws → Good (us ++ ws)
good_append [] [] h l = tt
good_append [] (w ∷ ws) h l = (l.0, l.2)
good_append (u ∷ us) ws h l = (h.0, low_append us ws h.1 l)

pub flag_append : (us ws : List Want) → Low ws → flag (us ++ ws) ≡ flag us
flag_append [] [] l = refl
flag_append [] (w ∷ ws) l = l.1
flag_append (u ∷ us) ws l = refl

-- one more where the want's byte is a node
abbrev pub added : Want → ℕ → ℕ
added rule n = suc n
added segment n = suc n
added kind n = n
added tens n = n
added (ones m) n = n

pub added_weight : (w : Want) (n : ℕ) → added w n ≡ n + weight w
added_weight rule n = omega arith
added_weight segment n = omega arith
added_weight kind n = omega arith
added_weight tens n = omega arith
added_weight (ones m) n = omega arith

-- no byte is more than one node
pub light : (w : Want) → weight w ≤ 1
light rule = omega arith
light segment = omega arith
light kind = omega arith
light tens = omega arith
light (ones m) = omega arith

-- what a byte makes of what is read after it
abbrev pub Shape : Want → Type 0
Shape w = (more : List Want) × (Forest more → What w)

-- what the byte makes is spelled by it and what is read after it, and has the nodes of both
pub record Fits (w : Want) (b : ℕ) (s : Shape w) : Type 0 where
  pub spelt : (f : Forest s.0) → spell w (s.1 f) ≡ b ∷ spells s.0 f
  pub sized : (f : Forest s.0) → size_of w (s.1 f) ≡ added w (sizes s.0 f)
  pub count : (bs : List ℕ) → nodes_from (is_kind w) (b ∷ bs) ≡ added w (nodes_from (flag s.0) bs)
  pub good : Good s.0

-- a byte with what it makes
abbrev Row : Want → Type 0
Row w = (code : ℕ) × (shape : Shape w) × Fits w code shape

abbrev row : (w : Want) (c : ℕ) (more : List Want) (build : Forest more → What w) → ((f : Forest more) → spell w (build f) ≡ c ∷ spells more f)
    → ((f : Forest more) → size_of w (build f) ≡ added w (sizes more f)) → ((bs : List ℕ) → nodes_from (is_kind w) (c ∷ bs) ≡ added w (nodes_from (flag more) bs)) → Good more → Row w
row w c more build spelt sized count good = (c, (more, build), record { spelt = spelt; sized = sized; count = count; good = good })

-- a test of a channel, or of none; opposite or not
abbrev pub test : Option Channel → Bool → Test
test o b = record { channel = o; opposite = b }

-- y n h f ! & + E e A a U R
abbrev rules : List (Row rule)
rules =
    row rule 121 [] (λ f. letter (test None false)) (λ f. refl) (λ f. refl) (λ bs. refl) tt
    ∷ row rule 110 [] (λ f. letter (test None true)) (λ f. refl) (λ f. refl) (λ bs. refl) tt
    ∷ row rule 104 (tens ∷ []) (λ f. letter (test (Some f.0) false)) (λ f. refl) (λ f. refl) (λ bs. refl) (tt, tt)
    ∷ row rule 102 (tens ∷ []) (λ f. letter (test (Some f.0) true)) (λ f. refl) (λ f. refl) (λ bs. refl) (tt, tt)
    ∷ row rule 33 (rule ∷ []) (λ f. negated f.0) (λ f. simp append-nil) (λ f. omega arith) (λ bs. refl) (tt, tt)
    ∷ row rule 38 (rule ∷ rule ∷ []) (λ f. both f.0 f.1.0) (λ f. simp append-nil) (λ f. omega arith) (λ bs. refl) (tt, (tt, refl, tt))
    ∷ row rule 43 (rule ∷ rule ∷ []) (λ f. any f.0 f.1.0) (λ f. simp append-nil) (λ f. omega arith) (λ bs. refl) (tt, (tt, refl, tt))
    ∷ row rule 69 (segment ∷ rule ∷ []) (λ f. next SomeStrong f.0 f.1.0) (λ f. simp append-nil) (λ f. omega arith) (λ bs. refl) (tt, (tt, refl, tt))
    ∷ row rule 101 (segment ∷ rule ∷ []) (λ f. next SomeWeak f.0 f.1.0) (λ f. simp append-nil) (λ f. omega arith) (λ bs. refl) (tt, (tt, refl, tt))
    ∷ row rule 65 (segment ∷ rule ∷ []) (λ f. next EveryStrong f.0 f.1.0) (λ f. simp append-nil) (λ f. omega arith) (λ bs. refl) (tt, (tt, refl, tt))
    ∷ row rule 97 (segment ∷ rule ∷ []) (λ f. next EveryWeak f.0 f.1.0) (λ f. simp append-nil) (λ f. omega arith) (λ bs. refl) (tt, (tt, refl, tt))
    ∷ row rule 85 (kind ∷ rule ∷ segment ∷ rule ∷ []) (λ f. until f.0 f.1.0 f.1.1.0 f.1.1.1.0) (λ f. simp (append_assoc, append-nil)) (λ f. omega arith) (λ bs. refl) (tt, (tt, refl, (tt, refl, (tt, refl, tt))))
    ∷ row rule 82 (kind ∷ rule ∷ segment ∷ rule ∷ []) (λ f. release f.0 f.1.0 f.1.1.0 f.1.1.1.0) (λ f. simp (append_assoc, append-nil)) (λ f. omega arith) (λ bs. refl) (tt, (tt, refl, (tt, refl, (tt, refl, tt))))
    ∷ []

-- y n h f | . *
abbrev segments : List (Row segment)
segments =
    row segment 121 [] (λ f. single (test None false)) (λ f. refl) (λ f. refl) (λ bs. refl) tt
    ∷ row segment 110 [] (λ f. single (test None true)) (λ f. refl) (λ f. refl) (λ bs. refl) tt
    ∷ row segment 104 (tens ∷ []) (λ f. single (test (Some f.0) false)) (λ f. refl) (λ f. refl) (λ bs. refl) (tt, tt)
    ∷ row segment 102 (tens ∷ []) (λ f. single (test (Some f.0) true)) (λ f. refl) (λ f. refl) (λ bs. refl) (tt, tt)
    ∷ row segment 124 (segment ∷ segment ∷ []) (λ f. either f.0 f.1.0) (λ f. simp append-nil) (λ f. omega arith) (λ bs. refl) (tt, (tt, refl, tt))
    ∷ row segment 46 (segment ∷ segment ∷ []) (λ f. chain f.0 f.1.0) (λ f. simp append-nil) (λ f. omega arith) (λ bs. refl) (tt, (tt, refl, tt))
    ∷ row segment 42 (segment ∷ segment ∷ []) (λ f. star f.0 f.1.0) (λ f. simp append-nil) (λ f. omega arith) (λ bs. refl) (tt, (tt, refl, tt))
    ∷ []

-- E e A a
abbrev kinds : List (Row kind)
kinds =
    row kind 69 [] (λ f. SomeStrong) (λ f. refl) (λ f. refl) (λ bs. refl) tt
    ∷ row kind 101 [] (λ f. SomeWeak) (λ f. refl) (λ f. refl) (λ bs. refl) tt
    ∷ row kind 65 [] (λ f. EveryStrong) (λ f. refl) (λ f. refl) (λ bs. refl) tt
    ∷ row kind 97 [] (λ f. EveryWeak) (λ f. refl) (λ f. refl) (λ bs. refl) tt
    ∷ []

-- a channel is known by its number
pub channel_path : (c d : Channel) → c.number ≡ d.number → c ≡ d
channel_path c d e = λ i. record { number = e i; few = is_prop→PathP (λ j. e j < 16) (λ j. le_prop) c.few d.few i }

and_both : (x y : Bool) → T (x && y) → T x × T y
and_both true y h = (tt, h)
and_both false y h = elim h [ ]

both_and : (x y : Bool) → T x → T y → T (x && y)
both_and true y h l = l
both_and false y h l = elim h [ ]

-- a second digit's number
abbrev pub unit : (m : ℕ) → What (ones m) → ℕ
unit m d = d.0 - 48

pub digit_of : (m b : ℕ) → 48 ≤ b → b ≤ 48 + m → T (digit_to m b)
digit_of m b l h = both_and (leb 48 b) (leb b (48 + m)) (le→leb 48 b l) (le→leb b (48 + m) h)

pub unit_bounds : (m b : ℕ) → T (digit_to m b) → (48 ≤ b) × (b ≤ 48 + m)
unit_bounds m b h = let p = and_both (leb 48 b) (leb b (48 + m)) h in (leb→le 48 b p.0, leb→le b (48 + m) p.1)

pub few_units : (m : ℕ) (d : What (ones m)) (n : ℕ) → n + m < 16 → n + unit m d < 16
few_units m d n h = omega (arith, unit_bounds m d.0 d.1)

pub channel_spelt : (m : ℕ) (d : What (ones m)) (t : ℕ) → m ≤ 9 → t ≤ 1 → (48 + (10 * t + unit m d) / 10) ∷ (48 + (10 * t + unit m d) % 10) ∷ [] ≡ (48 + t) ∷ d.0 ∷ []
channel_spelt m d t h l =
    let p : 48 + (10 * t + unit m d) / 10 ≡ 48 + t = omega (arith, unit_bounds m d.0 d.1) in
    let q : 48 + (10 * t + unit m d) % 10 ≡ d.0 = omega (arith, unit_bounds m d.0 d.1) in
    λ i. p i ∷ q i ∷ []

abbrev pub channel_of : (m : ℕ) (t : ℕ) → 10 * t + m < 16 → What (ones m) → Channel
channel_of m t h d = record { number = 10 * t + unit m d; few = few_units m d (10 * t) h }

-- a channel's first digit, 0 or 1
abbrev pub channels : List (Row tens)
channels =
    row tens 48 (ones 9 ∷ []) (λ f. channel_of 9 0 (lit< tt) f.0) (λ f. channel_spelt 9 f.0 0 (lit≤ tt) (lit≤ tt)) (λ f. refl) (λ bs. refl) (lit≤ tt, tt)
    ∷ row tens 49 (ones 5 ∷ []) (λ f. channel_of 5 1 (lit< tt) f.0) (λ f. channel_spelt 5 f.0 1 (lit≤ tt) (lit≤ tt)) (λ f. refl) (λ bs. refl) (lit≤ tt, tt)
    ∷ []

abbrev find : (w : Want) → List (Row w) → ℕ → Option (Shape w)
find w [] b = None
find w (r ∷ rs) b = cond (eqb b r.0) (Some r.1) (find w rs b)

abbrev given : {A : Type 0} (x : Bool) → (T x → A) → Option A
given true f = Some (f tt)
given false f = None

pub given_true : {A : Type 0} (x : Bool) (h : T x) (f : T x → A) → given x f ≡ Some (f h)
given_true true h f = refl
given_true false h f = elim h [ ]

given_some : {A : Type 0} (x : Bool) (f : T x → A) (a : A) → given x f ≡ Some a → (h : T x) × (f h ≡ a)
given_some true f a e = (tt, same_Some _ _ e)
given_some false f a e = absurd (none-some _ e)

-- what the byte makes of what is read after it; none where it is not allowed
abbrev pub shape : (w : Want) → ℕ → Option (Shape w)
shape rule b = find rule rules b
shape segment b = find segment segments b
shape kind b = find kind kinds b
shape tens b = find tens channels b
shape (ones m) b = given (digit_to m b) (λ h. ([], λ f. (b, h)))

cond_or : {A : Type 0} (x y : Bool) (a b : A) → cond (x || y) a b ≡ cond x a (cond y a b)
cond_or true y a b = refl
cond_or false y a b = refl

find_fits : (w : Want) (rs : List (Row w)) (b : ℕ) (s : Shape w) → find w rs b ≡ Some s → Fits w b s
find_fits w [] b s e = absurd (none-some _ e)
find_fits w (r ∷ rs) b s e = go (eqb b r.0) refl e (find_fits w rs b s)
  where
    go : (x : Bool) → eqb b r.0 ≡ x → cond x (Some r.1) (find w rs b) ≡ Some s → (find w rs b ≡ Some s → Fits w b s) → Fits w b s
    go true q e rest = subst (λ (c : ℕ). Fits w c s) (sym (eqb-true b r.0 q)) (subst (Fits w r.0) (same_Some _ _ e) r.2)
    go false q e rest = rest e

pub shape_fits : (w : Want) (b : ℕ) (s : Shape w) → Top w → shape w b ≡ Some s → Fits w b s
shape_fits rule b s h e = find_fits rule rules b s e
shape_fits segment b s h e = find_fits segment segments b s e
shape_fits kind b s h e = find_fits kind kinds b s e
shape_fits tens b s h e = find_fits tens channels b s e
shape_fits (ones m) b s h e =
    let (d, q) = given_some (digit_to m b) (λ h. ([], λ f. (b, h))) s e in
    let bounds = unit_bounds m b d in
    let digit : is_digit b ≡ true = and_from _ _ (le-leb 48 b (omega arith)) (le-leb b 57 (omega arith)) in
    subst (Fits (ones m) b) q (record { spelt = λ f. refl; sized = λ f. refl; count = λ bs. rw digit; good = tt })

-- what is left to be read after the byte
abbrev pub mores : (w : Want) → Option (Shape w) → Option (List Want)
mores w None = None
mores w (Some s) = Some s.0

mores_cond : (w : Want) (x : Bool) (s : Shape w) (o : Option (Shape w)) → mores w (cond x (Some s) o) ≡ cond x (Some s.0) (mores w o)
mores_cond w true s o = refl
mores_cond w false s o = refl

pub opens_shape : (w : Want) (b : ℕ) → opens w b ≡ mores w (shape w b)
unfolding opens
opens_shape rule b = simp (cond_or, mores_cond)
opens_shape segment b = simp (cond_or, mores_cond)
opens_shape kind b = simp (cond_or, mores_cond)
opens_shape tens b = simp mores_cond
opens_shape (ones m) b = go (digit_to m b) (λ h. ([], λ f. (b, h))) (λ h. refl)
  where
    go : (x : Bool) (f : T x → Shape (ones m)) → ((h : T x) → (f h).0 ≡ []) → cond x (Some []) None ≡ mores (ones m) (given x f)
    go true f e = ap Some (sym (e tt))
    go false f e = refl
