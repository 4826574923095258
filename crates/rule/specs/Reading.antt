-- When a text is accepted as a rule, and what each refusal of a text means. Assumes nothing.
use Rattle.std.specs.Prelude.{◌≡◌, ℕ, suc, ◌+◌, ◌<◌, ◌≤◌, Bool, true, false, cond, ◌&&◌, ◌||◌, ◌⊎◌, List, [], ◌∷◌, ◌++◌, length, take, codes, ◌==◌, nat_le}
use Rattle.fault.specs.declared.TextCause.{TextCause}
use Rattle.fault.specs.declared.TextCause.TheVariants.{Length, Byte, Early, LeftOver, Nodes, Hexadecimal}
use Rattle.rule.specs.Spelling.{spelled}
use Rattle.rule.specs.Tree as plain

-- a sentence is the spelling of a rule
abbrev pub Sentence : List ℕ → Type 0
Sentence t = (r : plain.Rule) × (spelled r ≡ t)

-- a text begins a sentence when something can be put after it, or nothing, that makes it one
abbrev pub Begins : List ℕ → Type 0
Begins t = (more : List ℕ) × Sentence (t ++ more)

abbrev pub among : ℕ → List ℕ → Bool
among b [] = false
among b (x ∷ xs) = b == x || among b xs

abbrev pub is_digit : ℕ → Bool
is_digit b = nat_le 48 b && nat_le b 57

-- the nodes of a text, the kind after a `U` or `R` left out: the flag says that the byte before was one of these
abbrev pub nodes_from : Bool → List ℕ → ℕ
nodes_from after [] = 0
nodes_from true (b ∷ bs) = nodes_from false bs
nodes_from false (b ∷ bs) = cond (is_digit b) (nodes_from false bs) (suc (nodes_from (among b (codes "UR")) bs))

-- a node is each letter or sign of a text that is not a kind after `U` or `R`; digits are none
abbrev pub nodes : List ℕ → ℕ
nodes t = nodes_from false t

-- a rule's text has 1 to 96 bytes
abbrev pub Fitting : List ℕ → Type 0
Fitting t = (1 ≤ length t) × (length t ≤ 96)

-- the text is accepted as the rule r
pub record Accepted (t : List ℕ) (r : plain.Rule) : Type 0 where
  pub fitting : Fitting t
  pub spelling : spelled r ≡ t
  pub few : nodes t ≤ 48

-- byte p is not allowed: what stands before it begins a sentence and is none yet, with it there is none
pub record BadByte (t : List ℕ) (p : ℕ) : Type 0 where
  pub fitting : Fitting t
  pub inside : p < length t
  pub begun : Begins (take p t)
  pub short : Sentence (take p t) → ⊥
  pub few : nodes (take p t) ≤ 48
  pub lost : Begins (take (p + 1) t) → ⊥

-- the text ends early: it begins a sentence and is none
pub record EndsEarly (t : List ℕ) (p : ℕ) : Type 0 where
  pub fitting : Fitting t
  pub end : p ≡ length t
  pub begun : Begins t
  pub few : nodes t ≤ 48
  pub short : Sentence t → ⊥

-- bytes are left over: the first p bytes are a sentence, and there are more
pub record BytesLeft (t : List ℕ) (p : ℕ) : Type 0 where
  pub fitting : Fitting t
  pub inside : p < length t
  pub sentence : Sentence (take p t)
  pub few : nodes (take p t) ≤ 48

-- a 49th node: the first p bytes hold 48 nodes, and with byte p they begin a sentence and hold 49
pub record ManyNodes (t : List ℕ) (p : ℕ) : Type 0 where
  pub fitting : Fitting t
  pub inside : p < length t
  pub full : nodes (take p t) ≡ 48
  pub begun : Begins (take (p + 1) t)
  pub over : nodes (take (p + 1) t) ≡ 49

-- what each refusal of a rule text means
abbrev pub Means : List ℕ → TextCause → ℕ → Type 0
Means t Length p = (p ≡ 0) × ((length t ≡ 0) ⊎ (96 < length t))
Means t Byte p = BadByte t p
Means t Early p = EndsEarly t p
Means t LeftOver p = BytesLeft t p
Means t Nodes p = ManyNodes t p
Means t Hexadecimal p = ⊥

-- what may become of a text
pub data Answer : Type 0 where
  accepted : plain.Rule → Answer
  refused : TextCause → ℕ → Answer

abbrev pub Holds : List ℕ → Answer → Type 0
Holds t (accepted r) = Accepted t r
Holds t (refused cause p) = Means t cause p

-- every text has this answer and no other
abbrev pub Only : List ℕ → Answer → Type 0
Only t a = Holds t a × ((b : Answer) → Holds t b → b ≡ a)
