-- The kind of a listed box says what its form said.
use Rattle.std.proofs.Common.{◌≡◌, Bool, true, false, refl}
use Rattle.lay_boxgen.specs.KindLaws.{KindsSayForms}
use Rattle.lay_box_tree.specs.Roles.{is_inline_level, role_of_kind}
use Rattle.lay_box_tree.specs.declared.box_tree.BoxKind.TheVariants as kind
use Rattle.lay_boxgen.specs.declared.facts.Form.TheVariants.{Block, InlineBlock, Inline, Text, Replaced, Wrapper, InlineWrapper, Table, Caption, RowGroup, HeaderGroup, FooterGroup, Row, ColumnGroup, Column, Cell, Anchor}

block : (inner : Bool) → is_inline_level (role_of_kind inner kind.Block) ≡ false
block true = refl
block false = refl

pub kinds_say_forms : KindsSayForms
kinds_say_forms text inner Block = (refl, refl, block inner)
kinds_say_forms text inner InlineBlock = (refl, refl, refl)
kinds_say_forms text inner Inline = (refl, refl, refl)
kinds_say_forms text inner (Text t) = (refl, refl, refl)
kinds_say_forms text inner (Replaced w h true) = (refl, refl, refl)
kinds_say_forms text inner (Replaced w h false) = (refl, refl, refl)
kinds_say_forms text inner Wrapper = (refl, refl, refl)
kinds_say_forms text inner InlineWrapper = (refl, refl, refl)
kinds_say_forms text inner Table = (refl, refl, refl)
kinds_say_forms text inner Caption = (refl, refl, refl)
kinds_say_forms text inner RowGroup = (refl, refl, refl)
kinds_say_forms text inner HeaderGroup = (refl, refl, refl)
kinds_say_forms text inner FooterGroup = (refl, refl, refl)
kinds_say_forms text inner Row = (refl, refl, refl)
kinds_say_forms text inner (ColumnGroup span) = (refl, refl, refl)
kinds_say_forms text inner (Column span) = (refl, refl, refl)
kinds_say_forms text inner (Cell colspan rowspan) = (refl, refl, refl)
kinds_say_forms text inner Anchor = (refl, refl, refl)
