-- Containers that hold one text, which white space processing leaves as it is.
use Rattle.std.proofs.Common.{◌≡◌, ◌∙◌, ℕ, ◌+◌, ◌<◌, Bool, true, false, if◌then◌else◌, List, [], ◌∷◌, length, drop, get_or, slice_get, Option, None, Some, refl, sym, ap, chars, encode_utf8_all}
use Rattle.std.specs.Option.{IfSome}
use Rattle.std.proofs.lemmas.Bool.{eq-eqb}
use Rattle.std.proofs.lemmas.Option.{slice_get_read}
use Rattle.lay_units.specs.declared.records.ClusterWidth.{ClusterWidth}
use Rattle.lay_box_tree.specs.Roles.{role_of}
use Rattle.lay_box_tree.specs.declared.box_role.Role.TheVariants as role
use Rattle.lay_box_tree.specs.declared.box_tree.BoxNode.{BoxNode}
use Rattle.lay_face.specs.FaceValue.{FaceValue}
use Rattle.lay_space.specs.declared.item.Mode.{Mode}
use Rattle.lay_space.specs.declared.item.Item.TheVariants as item
use Rattle.lay_space.specs.Modes.{collapses}
use Rattle.lay_space.specs.CleanTexts.{IsClean}
use Rattle.lay_space.specs.WhiteSpace.{left_over, processed, text_left}
use Rattle.lay_line_items.proofs.Cited.{clean_stays}
use Rattle.lay_line_items.specs.InlineItems.{items_below, items_of, mode_of, text_of}
use Rattle.lay_line_items.specs.InlineSegments.{items_in, measured, widths_in}
use Rattle.lay_line_items.proofs.OpenInlines.{box_next}

-- the items of a container that holds one text
one_item : (boxes : List BoxNode) (c : ℕ) (b : BoxNode) → c + 1 < length boxes → b ≡ get_or boxes (c + 1) b → b.parent ≡ c → role_of b ≡ role.Text
    → items_below boxes c (c + 1 + 1) (drop (c + 1 + 1) boxes) ≡ [] → items_of boxes c ≡ item.Text (c + 1) (text_of b.kind) (mode_of b.style.text.white_space) [] ∷ []
one_item boxes c b within is parent text none = ap (items_below boxes c (c + 1)) (box_next boxes (c + 1) b within is) ∙ rw (eq-eqb b.parent c parent, text, none) refl

stays_clean : (m : Mode) (text : List ℕ) → IsClean false text → text_left false m text ≡ text
stays_clean m text is = by (collapses m)
  where
    by : (b : Bool) → (if b then encode_utf8_all (left_over m false false (chars text)) else text) ≡ text
    by true = sym (clean_stays m false text is).0
    by false = refl

pub stays_some : {X : Type 0} (P : X → Type 0) (m : Mode) (text : List ℕ) (found : Option X) → IfSome found (λ x. IsClean false text × P x) → IfSome found (λ x. text_left false m text ≡ text)
stays_some P m text None is = tt
stays_some P m text (Some x) is = stays_clean m text is.0

-- where nothing collapses, all of a text is left
pub stays_kept : (m : Mode) (text : List ℕ) → collapses m ≡ false → text_left false m text ≡ text
stays_kept m text kept = rw kept refl

pub one_text_in : (face : FaceValue) (boxes : List BoxNode) (c : ℕ) (b : BoxNode) (text : List ℕ) (m : Mode) (ws : List ClusterWidth) → c + 1 < length boxes → b ≡ get_or boxes (c + 1) b → b.parent ≡ c
    → role_of b ≡ role.Text → items_below boxes c (c + 1 + 1) (drop (c + 1 + 1) boxes) ≡ [] → text ≡ text_of b.kind → m ≡ mode_of b.style.text.white_space
    → text_left false (mode_of b.style.text.white_space) text ≡ text → ws ≡ widths_in face (Some b) text → items_in face boxes c ≡ item.Text (c + 1) text m ws ∷ []
one_text_in face boxes c b text m ws within is parent role none own mode stays widths =
    ap (λ items. measured face boxes (processed false items)) (one_item boxes c b within is parent role none)
    ∙ ap (λ t. item.Text (c + 1) (text_left false (mode_of b.style.text.white_space) t) (mode_of b.style.text.white_space) (widths_in face (slice_get boxes (c + 1)) (text_left false (mode_of b.style.text.white_space) t)) ∷ []) (sym own)
    ∙ ap (λ t. item.Text (c + 1) t (mode_of b.style.text.white_space) (widths_in face (slice_get boxes (c + 1)) t) ∷ []) stays
    ∙ ap (λ n. item.Text (c + 1) text n (widths_in face (slice_get boxes (c + 1)) text) ∷ []) (sym mode)
    ∙ ap (λ x. item.Text (c + 1) text m (widths_in face x text) ∷ []) (slice_get_read boxes (length boxes) (c + 1) b refl within is)
    ∙ ap (λ (w : List ClusterWidth). item.Text (c + 1) text m w ∷ []) (sym widths)
