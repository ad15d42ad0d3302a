-- The face of a run: the fields of `face` in order, each with the default face's value where it is absent.
-- All numbers are thousandths of the font size, 0 to 10,000.
use Rattle.std.specs.Prelude.{◌&&◌, List, [], ◌∷◌, ◌++◌, Bool, true, Option, Some, None}
use Rattle.std.specs.Prelude.{option_map, option_and_then, ok_or, Result, Ok, Err, if◌then◌else◌}
use Rattle.serde_json.specs.Data.{Data, Items, no_items, item}
use Rattle.lay_face.specs.declared.pairs.AdvancePair.{AdvancePair}
use Rattle.lay_face.specs.FaceValue.{FaceValue}
use Rattle.lay_face.specs.Faces.{face_of}
use Rattle.lay_json.specs.declared.fault.Field.TheVariants.{Face, Advance, Default, Ascent, Descent, XHeight, Normal}
use Rattle.lay_json.specs.declared.fault.Spot.TheVariants.{Run as in_run}
use Rattle.lay_json.specs.declared.fault.InputFault.{InputFault}
use Rattle.lay_json.specs.declared.fault.InputFault.TheVariants.{WrongKind, BadNumber}
use Rattle.lay_json.specs.Fields.{then_read, value_in, object_of, list_of, has_at_most, number_or, is_pair, pair_within}

-- whether all items are lists of two numbers
abbrev pub are_pairs : Items → Bool
are_pairs no_items = true
are_pairs (item d ds) = is_pair d && are_pairs ds

-- a code point, 0 to 1,114,111, and its advance
abbrev pub pair_of : Data → Option AdvancePair
pair_of d = option_map (λ p. record { code_point = p.0; advance = p.1 }) (pair_within 0 1114111 10000 d)

-- these pairs and those of the items, where all have numbers in their ranges
abbrev pub pairs_from : List AdvancePair → Items → Option (List AdvancePair)
pairs_from pairs no_items = Some pairs
pairs_from pairs (item d ds) = option_and_then (λ pair. pairs_from (pairs ++ pair ∷ []) ds) (pair_of d)

-- at most 65,536 pairs
abbrev pub few_pairs : Items → Option (List AdvancePair)
few_pairs ds = if has_at_most 65536 ds then pairs_from [] ds else None

-- a list that must be one of pairs: a wrong kind anywhere in it comes before a number out of range, and before
-- too many pairs
abbrev pub pairs_of : Items → Result (List AdvancePair) InputFault
pairs_of ds = if are_pairs ds then ok_or (few_pairs ds) (BadNumber Advance in_run) else Err (WrongKind Advance in_run)

abbrev pub advances : Data → Result (List AdvancePair) InputFault
advances face = given_or_none (value_in Advance face)
  where
    given_or_none : Option Data → Result (List AdvancePair) InputFault
    given_or_none None = Ok []
    given_or_none (Some d) = then_read (list_of Advance in_run d) pairs_of

-- the face of these fields
abbrev pub face_in : Data → Result FaceValue InputFault
face_in face =
    then_read (advances face) (λ pairs.
    then_read (number_or 500 0 10000 Default in_run face) (λ default_advance.
    then_read (number_or 750 0 10000 Ascent in_run face) (λ ascent.
    then_read (number_or 250 0 10000 Descent in_run face) (λ descent.
    then_read (number_or 500 0 10000 XHeight in_run face) (λ x_height.
    then_read (number_or 1250 0 10000 Normal in_run face) (λ normal.
    Ok (face_of pairs default_advance ascent descent x_height normal)))))))

abbrev pub default_face : FaceValue
default_face = face_of [] 500 750 250 500 1250

-- the face of a run
abbrev pub run_face : Data → Result FaceValue InputFault
run_face run = given_or_default (value_in Face run)
  where
    given_or_default : Option Data → Result FaceValue InputFault
    given_or_default None = Ok default_face
    given_or_default (Some d) = then_read (object_of Face in_run d) (λ members. face_in d)
