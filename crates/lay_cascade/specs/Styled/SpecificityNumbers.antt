-- Specificity as one number (CSS 2.2, 6.4.3): "concatenating the four numbers a-b-c-d (in a number system with a large base)", where a
-- is 1 for a declaration of the node itself, and b, c and d count labels, classes and tags. The base is any above all counts. Of two
-- declarations of one importance the greater number counts, and of equal numbers the later declaration (6.4.1).
use Rattle.std.specs.Prelude.{ℕ, ◌≡◌, ◌+◌, ◌*◌, ◌<◌, ◌⊎◌, ◌↔◌, List, Bool, true, false, sum_by}
use Rattle.lay_sheet.specs.declared.selector.Simple.{Simple}
use Rattle.lay_sheet.specs.declared.selector.Simple.TheVariants.{Universal, Tag, Class, Label}
use Rattle.lay_sheet.specs.declared.selector.Step.{Step}
use Rattle.lay_cascade.specs.declared.counts.Specificity.{Specificity}
use Rattle.lay_cascade.specs.Specificity.{specificity_of}
use Rattle.lay_cascade.specs.declared.styled.weight.Weight.{Weight}
use Rattle.lay_cascade.specs.Styled.Weights.{key_of, own_key, is_less_key, is_lighter}

-- what a simple selector adds to the number: a label one of b, a class one of c, a tag one of d
abbrev pub worth : ℕ → Simple → ℕ
worth base Universal = 0
worth base (Tag name) = 1
worth base (Class name) = base
worth base (Label name) = base * base

-- the number of a selector
abbrev pub number_of_steps : ℕ → List Step → ℕ
number_of_steps base steps = sum_by (λ s. worth base s.simple) steps

-- the number of a node's own declaration
abbrev pub own_number : ℕ → ℕ
own_number base = base * base * base

-- a base is above all counts of a selector
pub record IsBaseAbove (base : ℕ) (s : Specificity) : Type 0 where
  pub labels : s.labels < base
  pub classes : s.classes < base
  pub tags : s.tags < base

-- the weight is that of a declaration by these steps
pub record IsWeightBy (base : ℕ) (w : Weight) (steps : List Step) : Type 0 where
  pub is : w.specificity ≡ specificity_of steps
  pub above : IsBaseAbove base (specificity_of steps)

-- of two declarations of a sheet the first stands before the second
abbrev pub StandsBefore : Weight → Weight → Type 0
StandsBefore v w = (v.rule < w.rule) ⊎ ((v.rule ≡ w.rule) × (v.place < w.place))

-- the first isn't important and the second is
abbrev pub IsLessImportant : Weight → Weight → Type 0
IsLessImportant v w = (v.important ≡ false) × (w.important ≡ true)

-- the first, of the number m, counts less than the second, of the number n
abbrev pub CountsLess : Weight → ℕ → Weight → ℕ → Type 0
CountsLess v m w n = IsLessImportant v w ⊎ ((v.important ≡ w.important) × ((m < n) ⊎ ((m ≡ n) × StandsBefore v w)))

-- what decides among a sheet's declarations is importance, the number, and the place
abbrev pub WeightsAreNumbers : Type 0
WeightsAreNumbers = (base : ℕ) (v w : Weight) (s t : List Step) → IsWeightBy base v s → IsWeightBy base w t →
    (is_lighter v w ≡ true) ↔ CountsLess v (number_of_steps base s) w (number_of_steps base t)

-- beside a node's own declaration, which isn't important, it is importance and the number
abbrev pub OwnIsNumber : Type 0
OwnIsNumber = (base : ℕ) (v : Weight) (s : List Step) → IsWeightBy base v s →
    (is_less_key (key_of v) own_key ≡ true) ↔ ((v.important ≡ false) × (number_of_steps base s < own_number base))
