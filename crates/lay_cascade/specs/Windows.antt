-- Windows of a selector: some of its steps that follow one another, with words that have a truth value for each.
use Rattle.std.specs.Prelude.{ℕ, ◌≡◌, ◌+◌, ◌<◌, ◌≤◌, ◌==◌, Bool, true, false, List, length, Option, Some, None, unwrap_or, if◌then◌else◌}
use Rattle.std.specs.Option.{option_map_or}
use Rattle.std.specs.List.{slice_get}
use Rattle.std.specs.Str.{bytes_eq}
use Rattle.std.specs.HashMap as hash
use Rattle.lay_sheet.specs.declared.selector.Joint.{Joint}
use Rattle.lay_sheet.specs.declared.selector.Joint.TheVariants.{Same, Descendant, Child, Adjacent}
use Rattle.lay_sheet.specs.declared.selector.Simple.{Simple}
use Rattle.lay_sheet.specs.declared.selector.Simple.TheVariants.{Universal, Tag, Class, Label}
use Rattle.lay_sheet.specs.declared.selector.Step.{Step}
use Rattle.lay_cascade.specs.declared.windows.Place.{Place}
use Rattle.lay_cascade.specs.declared.windows.Place.TheVariants as at
use Rattle.lay_cascade.specs.declared.windows.NameMasks.{NameMasks}
use Rattle.lay_cascade.specs.declared.windows.JointMasks.{JointMasks}
use Rattle.lay_cascade.specs.declared.windows.Window.{Window}
use Rattle.lay_cascade.specs.Words.{is_in, with_bit}

abbrev pub joint_number : Joint → ℕ
joint_number Same = 0
joint_number Descendant = 1
joint_number Child = 2
joint_number Adjacent = 3

-- what a step may be asked: whether it is joined so, asks for any element, or for a name at a place
abbrev pub asks_joint : Joint → Step → Bool
asks_joint joint s = joint_number s.joint == joint_number joint

abbrev pub asks_universal : Simple → Bool
asks_universal Universal = true
asks_universal (Tag name) = false
asks_universal (Class name) = false
asks_universal (Label name) = false

abbrev pub tag_in : Simple → Option (List ℕ)
tag_in Universal = None
tag_in (Tag name) = Some name
tag_in (Class name) = None
tag_in (Label name) = None

abbrev pub label_in : Simple → Option (List ℕ)
label_in Universal = None
label_in (Tag name) = None
label_in (Class name) = None
label_in (Label name) = Some name

abbrev pub class_in : Simple → Option (List ℕ)
class_in Universal = None
class_in (Tag name) = None
class_in (Class name) = Some name
class_in (Label name) = None

abbrev pub name_in : Place → Simple → Option (List ℕ)
name_in at.Tag simple = tag_in simple
name_in at.Label simple = label_in simple
name_in at.Classes simple = class_in simple

abbrev pub asks_name : Place → List ℕ → Step → Bool
asks_name place name s = option_map_or (λ n. bytes_eq name n) (name_in place s.simple) false

-- the steps from a place on of which a word says whether they are so
abbrev pub IsMask : List Step → ℕ → ℕ → (Step → Bool) → ℕ → Type 0
IsMask steps from count Asks word = (j : ℕ) (s : Step) → j < count → slice_get steps (from + j) ≡ Some s → is_in word j ≡ Asks s

-- the word of a name
abbrev pub mask_of : NameMasks → List ℕ → ℕ
mask_of masks name = unwrap_or (hash.get_by (λ key. bytes_eq name key.now) masks.words) 0

-- the words with one step more that asks for a name
abbrev pub AsksMore : ℕ → List ℕ → NameMasks → NameMasks → Type 0
AsksMore j name old new = (q : List ℕ) → mask_of new q ≡ (if bytes_eq q name then with_bit (mask_of old q) j else mask_of old q)

abbrev pub AreNames : List Step → ℕ → ℕ → Place → NameMasks → Type 0
AreNames steps from count place masks = (q : List ℕ) → IsMask steps from count (asks_name place q) (mask_of masks q)

pub record AreJoints (steps : List Step) (from count : ℕ) (joints : JointMasks) : Type 0 where
  pub same : IsMask steps from count (asks_joint Same) joints.same
  pub child : IsMask steps from count (asks_joint Child) joints.child
  pub adjacent : IsMask steps from count (asks_joint Adjacent) joints.adjacent
  pub descendant : IsMask steps from count (asks_joint Descendant) joints.descendant

-- the words are those of the steps from a place on
pub record IsWindow (steps : List Step) (from : ℕ) (window : Window) : Type 0 where
  pub steps_are : window.steps.now ≡ steps
  pub from_is : window.from ≡ from
  pub some : 0 < window.count
  pub few : window.count ≤ 64
  pub within : from + window.count ≤ length steps
  pub joints : AreJoints steps from window.count window.joints
  pub universal : IsMask steps from window.count (λ s. asks_universal s.simple) window.universal
  pub tags : AreNames steps from window.count at.Tag window.tags
  pub labels : AreNames steps from window.count at.Label window.labels
  pub classes : AreNames steps from window.count at.Classes window.classes
