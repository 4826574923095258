-- What the reader found is the one answer that the text has. Assumes nothing.
use Rattle.std.proofs.Common.{◌≡◌, ℕ, ◌<◌, ◌≤◌, List, [], ◌∷◌, length, Err, refl, sym, ◌∙◌, append-nil, arith}
use Rattle.fault.specs.declared.TextCause.TheVariants.{LeftOver}
use Rattle.fault.specs.declared.TextFault.{TextFault}
use Rattle.fault.specs.declared.TextFault.TheVariants.{Refused, NoMemory}
use Rattle.std.proofs.lemmas.List.{nil_from_length}
use Rattle.rule.proofs.Sentences.{stopped, accepts, nodes_spelled}
use Rattle.rule.proofs.Whole.{ReadRule}
use Rattle.rule.specs.declared.reader.Reader.{Reader}
use Rattle.rule.specs.Machine.{rule, run, stop}
use Rattle.rule.specs.Parts.{Stops}
use Rattle.rule.specs.Reading.{Fitting, Only, accepted, refused}
use Rattle.rule.specs.Reads.{Reads}
use Rattle.rule.specs.Size.{size}
use Rattle.rule.specs.Spelling.{spelled}
use Rattle.rule.specs.Tree as plain

module _ (t : List ℕ) (start : Reader) (whole : start.rest.now ≡ t) (at : start.at ≡ 0) (nodes : start.nodes ≡ 0) (fit : Fitting t) where
  pub failed : (e : TextFault) → Stops start (rule ∷ []) e → Reads t (Err e)
  failed (Refused cause p) stops = stopped t cause p fit (rw (whole, at, nodes) at (stops []))
  failed NoMemory stops = tt

  module _ (end : Reader) (r : plain.Rule) (read : ReadRule start r end) where
    pub bytes_left : 0 < length end.rest.now → Only t (refused LeftOver end.at)
    unfolding run
    bytes_left more = stopped t LeftOver end.at fit (rw (whole, at, nodes) at (read.goes []) ∙ go end.rest.now more)
      where
        go : (bs : List ℕ) → 0 < length bs → run end.nodes end.at [] bs ≡ stop LeftOver end.at
        go [] l = absurd (omega arith)
        go (b ∷ bs) l = refl

    pub all_read : length end.rest.now ≡ 0 → Only t (accepted r)
    all_read none =
        let empty = nil_from_length end.rest.now none in
        let all : spelled r ≡ t = sym (rw (whole, empty, append-nil) at read.bytes) in
        let few : size r ≤ 48 = omega (arith, read.counted, end.few) in
        accepts t r fit all (rw (← all, nodes_spelled) few)
