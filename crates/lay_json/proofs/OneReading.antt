-- Bytes have one reading.
use Rattle.std.proofs.Common.{◌≡◌, ℕ, List, sym, ap, ◌∙◌, arith, Option, Some, None}
use Rattle.std.proofs.lemmas.Grind.{common_steps}
use Rattle.serde_json.specs.Data.{Data}
use Rattle.serde_json.specs.Read.{read}
use Rattle.lay_json.specs.RunDocument.{run_of}
use Rattle.lay_json.specs.Reading.{IsJson, IsNoJson, too_long, bad_json, json}
use Rattle.lay_json.specs.Laws.{OneReading}

pub some-none : (o : Option Data) (value : Data) → o ≡ Some value → o ≡ None → ⊥
some-none o value some none = grind (arith, common_steps, some, none)

pub one-some : (o : Option Data) (v w : Data) → o ≡ Some v → o ≡ Some w → v ≡ w
one-some o v w is_v is_w = grind (arith, common_steps, is_v, is_w)

pub no_json : (bytes : List ℕ) (value : Data) → IsJson bytes value → IsNoJson bytes → ⊥
no_json bytes value is none = some-none (read bytes) value is.1 (none is.0)

pub one_reading_lem : OneReading
one_reading_lem bytes a b (too_long l p) (too_long m q) = p ∙ sym q
one_reading_lem bytes a b (too_long l p) (bad_json m n q) = absurd (omega (arith, l, m))
one_reading_lem bytes a b (too_long l p) (json v m i q) = absurd (omega (arith, l, m))
one_reading_lem bytes a b (bad_json l n p) (too_long m q) = absurd (omega (arith, l, m))
one_reading_lem bytes a b (bad_json l n p) (bad_json m o q) = p ∙ sym q
one_reading_lem bytes a b (bad_json l n p) (json v m i q) = absurd (no_json bytes v i n)
one_reading_lem bytes a b (json v l i p) (too_long m q) = absurd (omega (arith, l, m))
one_reading_lem bytes a b (json v l i p) (bad_json m n q) = absurd (no_json bytes v i n)
one_reading_lem bytes a b (json v l i p) (json w m j q) = p ∙ ap run_of (one-some (read bytes) v w i.1 j.1) ∙ sym q
