-- What is read off the kind of a listed box is what box generation read off its form before.
use Rattle.std.specs.Prelude.{◌≡◌, ℕ, Bool, List}
use Rattle.lay_boxgen.specs.Forms as forms
use Rattle.lay_box_tree.specs.Kinds as kinds
use Rattle.lay_boxgen.specs.Listing.{kind_of}
use Rattle.lay_box_tree.specs.Roles as roles
use Rattle.lay_boxgen.specs.declared.facts.Form.{Form}

abbrev pub KindsSayForms : Type 0
KindsSayForms = (text : List ℕ) (inner : Bool) (f : Form)
    → (kinds.is_block_container_kind (kind_of text f) ≡ forms.is_block_container f)
    × (kinds.is_inline (kind_of text f) ≡ forms.is_inline f)
    × (roles.is_inline_level (roles.role_of_kind inner (kind_of text f)) ≡ forms.is_inline_level f)
