-- The number, the place and the layer of a refusal. Assumes nothing.
use Rattle.std.specs.Prelude.{ℕ, Some, None, Option}
use Rattle.fault.specs.declared.CardCause.{CardCause}
use Rattle.fault.specs.declared.CardCause.TheVariants.{Field, FieldLength, OtherScale, Code, Table, OutputShort}
use Rattle.fault.specs.declared.CardFault.{CardFault}
use Rattle.fault.specs.declared.CardFault.TheVariants as card
use Rattle.fault.specs.declared.CellCause.{CellCause}
use Rattle.fault.specs.declared.CellCause.TheVariants.{Ninth}
use Rattle.fault.specs.declared.CellFault.{CellFault}
use Rattle.fault.specs.declared.CellFault.TheVariants as cell
use Rattle.fault.specs.declared.Layer.{Layer}
use Rattle.fault.specs.declared.Layer.TheVariants as layer
use Rattle.fault.specs.declared.TextCause.{TextCause}
use Rattle.fault.specs.declared.TextCause.TheVariants.{Length, Byte, Early, LeftOver, Nodes, Hexadecimal}
use Rattle.fault.specs.declared.TextFault.{TextFault}
use Rattle.fault.specs.declared.TextFault.TheVariants.{Refused, NoMemory}
use Rattle.fault.specs.declared.WorkCause.{WorkCause}
use Rattle.fault.specs.declared.WorkCause.TheVariants.{Differs, BufferShort, SpareShort, Unfit, CountAbove, NoLetter}
use Rattle.fault.specs.declared.WorkFault.{WorkFault}
use Rattle.fault.specs.declared.WorkFault.TheVariants as work

abbrev pub numbered : TextCause → ℕ
numbered Length = 1
numbered Byte = 2
numbered Early = 3
numbered LeftOver = 4
numbered Nodes = 5
numbered Hexadecimal = 19

abbrev pub number_of : TextFault → Option ℕ
number_of (Refused cause place) = Some (numbered cause)
number_of NoMemory = None

abbrev pub place_of : TextFault → Option ℕ
place_of (Refused cause place) = Some place
place_of NoMemory = None

abbrev pub cell_numbered : CellCause → ℕ
cell_numbered Ninth = 6

-- a fault of the text has the text fault's number, place and layer
abbrev pub cell_number_of : CellFault → Option ℕ
cell_number_of (cell.Text fault) = number_of fault
cell_number_of (cell.Refused cause place) = Some (cell_numbered cause)

abbrev pub cell_place_of : CellFault → Option ℕ
cell_place_of (cell.Text fault) = place_of fault
cell_place_of (cell.Refused cause place) = Some place

abbrev pub cell_layer_of : CellFault → Layer
cell_layer_of (cell.Text fault) = layer.Text
cell_layer_of (cell.Refused cause place) = layer.Cells

abbrev pub work_numbered : WorkCause → ℕ
work_numbered Differs = 7
work_numbered BufferShort = 8
work_numbered SpareShort = 9
work_numbered Unfit = 10
work_numbered CountAbove = 11
work_numbered NoLetter = 12

abbrev pub work_number_of : WorkFault → ℕ
work_number_of (work.Refused cause place) = work_numbered cause

abbrev pub work_place_of : WorkFault → ℕ
work_place_of (work.Refused cause place) = place

abbrev pub card_numbered : CardCause → ℕ
card_numbered Field = 13
card_numbered FieldLength = 14
card_numbered OtherScale = 15
card_numbered Code = 16
card_numbered Table = 17
card_numbered OutputShort = 18

-- a fault of the cells, or of the work, has its own number, place and layer
abbrev pub card_number_of : CardFault → Option ℕ
card_number_of (card.Cell fault) = cell_number_of fault
card_number_of (card.Work fault) = Some (work_number_of fault)
card_number_of (card.Refused cause place) = Some (card_numbered cause)

abbrev pub card_place_of : CardFault → Option ℕ
card_place_of (card.Cell fault) = cell_place_of fault
card_place_of (card.Work fault) = Some (work_place_of fault)
card_place_of (card.Refused cause place) = Some place

abbrev pub card_layer_of : CardFault → Layer
card_layer_of (card.Cell fault) = cell_layer_of fault
card_layer_of (card.Work fault) = layer.Work
card_layer_of (card.Refused cause place) = layer.Card
