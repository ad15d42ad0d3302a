-- Clean texts stay as they are.
use Rattle.std.proofs.Common.{◌≡◌, ◌≢◌, ℕ, ◌==◌, ◌&&◌, ◌||◌, Bool, true, false, if◌then◌else◌, List, [], ◌∷◌, ◌++◌, map, refl, sym, ap, ◌∙◌, chars, encode_utf8_all}
use Rattle.std.specs.Str.{IsAscii}
use Rattle.std.proofs.lemmas.Bool.{ne_eqb}
use Rattle.std.proofs.lemmas.Str.{chars-nil, chars_past_char, IsUtf8-from_ascii, encode_ascii}
use Rattle.std.proofs.lemmas.Str.Ascii.{encodes-IsAscii, IsAscii-nil, IsAscii-cons}
use Rattle.lay_space.specs.declared.item.Mode.{Mode}
use Rattle.lay_space.specs.Modes.{joins_lines}
use Rattle.lay_space.specs.WhiteSpace.{is_blank, runs_to_linefeed, strip, as_space, squeeze, left_over, ends_in_space}
use Rattle.lay_space.specs.CleanTexts.{IsClean}

one_feed : (t : Bool) (b : ℕ) (bs : List ℕ) → b ≢ 10 → runs_to_linefeed bs ≡ false → (if t then runs_to_linefeed bs else b == 10) ≡ false
one_feed true b bs other rest = rest
one_feed false b bs other rest = ne_eqb b 10 other

no_feed : (before : Bool) (bs : List ℕ) → IsClean before bs → runs_to_linefeed bs ≡ false
no_feed before [] is = refl
no_feed before (b ∷ bs) is = one_feed (is_blank b) b bs is.2 (no_feed (b == 32) bs is.5)

strip_one : (t : Bool) (b : ℕ) (bs : List ℕ) → b ≢ 10 → runs_to_linefeed bs ≡ false → strip false bs ≡ bs
    → (if t then (if false || runs_to_linefeed bs then strip false bs else b ∷ strip false bs) else (b ∷ strip (b == 10) bs)) ≡ b ∷ bs
strip_one true b bs other feed rest = rw (feed, rest) refl
strip_one false b bs other feed rest = rw (ne_eqb b 10 other, rest) refl

stripped : (before : Bool) (bs : List ℕ) → IsClean before bs → strip false bs ≡ bs
stripped before [] is = refl
stripped before (b ∷ bs) is = strip_one (is_blank b) b bs is.2 (no_feed (b == 32) bs is.5) (stripped (b == 32) bs is.5)

spaced_one : (m : Mode) (b : ℕ) (j : Bool) → b ≢ 9 → b ≢ 10 → (if b == 9 then 32 else (if j && b == 10 then 32 else b)) ≡ b
spaced_one m b true t f = rw (ne_eqb b 9 t, ne_eqb b 10 f) refl
spaced_one m b false t f = rw (ne_eqb b 9 t) refl

spaced : (m : Mode) (before : Bool) (bs : List ℕ) → IsClean before bs → map (as_space m) bs ≡ bs
spaced m before [] is = refl
spaced m before (b ∷ bs) is = rw (spaced_one m b (joins_lines m) is.1 is.2, spaced m (b == 32) bs is.5) refl

squeezed : (before : Bool) (bs : List ℕ) → IsClean before bs → squeeze before bs ≡ bs
squeezed before [] is = refl
squeezed true (b ∷ bs) is = rw (ne_eqb b 32 (is.4 refl), sym (ap (λ t. squeeze t bs) (ne_eqb b 32 (is.4 refl))), squeezed (b == 32) bs is.5) refl
squeezed false (b ∷ bs) is = ap (λ cs. b ∷ cs) (squeezed (b == 32) bs is.5)

clean_ascii : (before : Bool) (bs : List ℕ) → IsClean before bs → IsAscii bs
clean_ascii before [] is = IsAscii-nil
clean_ascii before (b ∷ bs) is = IsAscii-cons b bs is.0 (clean_ascii (b == 32) bs is.5)

clean_chars : (before : Bool) (bs : List ℕ) → IsClean before bs → chars bs ≡ bs
clean_chars before [] is = chars-nil
clean_chars before (b ∷ bs) is =
    chars_past_char (b ∷ bs) bs b (IsUtf8-from_ascii (b ∷ bs) (clean_ascii before (b ∷ bs) is)) (ap (λ e. e ++ bs) (sym (encode_ascii b is.0))) ∙ ap (λ cs. b ∷ cs) (clean_chars (b == 32) bs is.5)

pub clean_stays : (m : Mode) (before : Bool) (bs : List ℕ) → IsClean before bs → (bs ≡ encode_utf8_all (left_over m false before (chars bs))) × (ends_in_space before (left_over m false before (chars bs)) ≡ ends_in_space before bs)
clean_stays m before bs is =
    let all : left_over m false before (chars bs) ≡ bs =
    ap (left_over m false before) (clean_chars before bs is) ∙ ap (λ cs. squeeze before (map (as_space m) cs)) (stripped before bs is)
    ∙ ap (squeeze before) (spaced m before bs is) ∙ squeezed before bs is in
    (sym (ap encode_utf8_all all ∙ encodes-IsAscii bs (clean_ascii before bs is)), ap (ends_in_space before) all)
