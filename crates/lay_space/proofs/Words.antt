-- White space that goes leaves the words, and white space between them.
use Rattle.std.proofs.Common.{◌≡◌, ℕ, ◌==◌, ◌&&◌, ◌||◌, Bool, true, false, if◌then◌else◌, List, [], ◌∷◌, map, refl, sym, ap, ◌∙◌, subst}
use Rattle.std.proofs.lemmas.Bool.{or_right, and_right, true≢false, or_parts}
use Rattle.lay_space.specs.declared.item.Mode.{Mode}
use Rattle.lay_space.specs.Modes.{joins_lines}
use Rattle.lay_space.specs.WhiteSpace.{is_blank, runs_to_linefeed, strip, as_space, squeeze, ends_in_space}
use Rattle.lay_space.specs.WhiteSpaceLaws.{is_white_code, words, ends_in_white}

-- these characters have the same words
pub record Same (b : Bool) (left cs : List ℕ) : Type 0 where
  pub words : words b left ≡ words b cs
  pub ends : ends_in_white b left ≡ ends_in_white b cs

-- the words of a row of white space, and of another character
white_words : (b : Bool) (c : ℕ) (cs : List ℕ) → is_white_code c ≡ true → words b (c ∷ cs) ≡ (if b then words true cs else (32 ∷ words true cs))
white_words b c cs e = ap (λ w. if w then (if b then words true cs else (32 ∷ words true cs)) else (c ∷ words false cs)) e

plain_words : (b : Bool) (c : ℕ) (cs : List ℕ) → is_white_code c ≡ false → words b (c ∷ cs) ≡ c ∷ words false cs
plain_words b c cs e = ap (λ w. if w then (if b then words true cs else (32 ∷ words true cs)) else (c ∷ words false cs)) e

ends_one : (b w : Bool) (c : ℕ) (cs : List ℕ) → is_white_code c ≡ w → ends_in_white b (c ∷ cs) ≡ ends_in_white w cs
ends_one b w c cs e = ap (λ v. ends_in_white v cs) e

both_white : (b : Bool) (d c : ℕ) (left cs : List ℕ) → is_white_code d ≡ true → is_white_code c ≡ true → Same true left cs → Same b (d ∷ left) (c ∷ cs)
both_white b d c left cs dw cw same = record {
  words = white_words b d left dw ∙ ap (λ ws. if b then ws else (32 ∷ ws)) same.words ∙ sym (white_words b c cs cw);
  ends = ends_one b true d left dw ∙ same.ends ∙ sym (ends_one b true c cs cw);
}

both_plain : (b : Bool) (c : ℕ) (left cs : List ℕ) → is_white_code c ≡ false → Same false left cs → Same b (c ∷ left) (c ∷ cs)
both_plain b c left cs cp same = record {
  words = plain_words b c left cp ∙ ap (λ ws. c ∷ ws) same.words ∙ sym (plain_words b c cs cp);
  ends = ends_one b false c left cp ∙ same.ends ∙ sym (ends_one b false c cs cp);
}

dropped : (b : Bool) (c : ℕ) (left cs : List ℕ) → b ≡ true → is_white_code c ≡ true → Same true left cs → Same b left (c ∷ cs)
dropped true c left cs on cw same = record {
  words = same.words ∙ sym (white_words true c cs cw);
  ends = same.ends ∙ sym (ends_one true true c cs cw);
}
dropped false c left cs on cw same = absurd (true≢false (sym on))

white_stays : (m : Mode) (c : ℕ) → is_white_code c ≡ true → is_white_code (as_space m c) ≡ true
white_stays m c e = one (c == 9) (joins_lines m && c == 10)
  where
    one : (p q : Bool) → is_white_code (if p then 32 else (if q then 32 else c)) ≡ true
    one true q = refl
    one false true = refl
    one false false = e

plain_stays : (m : Mode) (c : ℕ) → is_white_code c ≡ false → as_space m c ≡ c
plain_stays m c e = one (c == 9) (c == 10) (joins_lines m) (or_parts (c == 9) (c == 13) (or_parts (c == 9 || c == 13) (c == 32) (or_parts (is_blank c) (c == 10) e).0).0).0 (or_parts (is_blank c) (c == 10) e).1
  where
    one : (p q j : Bool) → p ≡ false → q ≡ false → (if p then 32 else (if j && q then 32 else c)) ≡ c
    one true q j pe qe = absurd (true≢false pe)
    one false true j pe qe = absurd (true≢false qe)
    one false false true pe qe = refl
    one false false false pe qe = refl

white_char : (m : Mode) (a b : Bool) (c : ℕ) (ys cs : List ℕ) → (a ≡ true → b ≡ true) → is_white_code c ≡ true → ((next : Bool) → Same true (squeeze next ys) cs)
    → Same b (squeeze a (as_space m c ∷ ys)) (c ∷ cs)
white_char m false b c ys cs before cw rest = both_white b (as_space m c) c (squeeze (as_space m c == 32) ys) cs (white_stays m c cw) cw (rest (as_space m c == 32))
white_char m true b c ys cs before cw rest = one (as_space m c == 32)
  where
    one : (k : Bool) → Same b (if k then squeeze true ys else (as_space m c ∷ squeeze (as_space m c == 32) ys)) (c ∷ cs)
    one true = dropped b c (squeeze true ys) cs (before refl) cw (rest true)
    one false = both_white b (as_space m c) c (squeeze (as_space m c == 32) ys) cs (white_stays m c cw) cw (rest (as_space m c == 32))

plain_squeezed : (a : Bool) (c : ℕ) (ys : List ℕ) → is_white_code c ≡ false → squeeze a (c ∷ ys) ≡ c ∷ squeeze false ys
plain_squeezed a c ys e =
    let other : (c == 32) ≡ false = (or_parts (c == 9 || c == 13) (c == 32) (or_parts (is_blank c) (c == 10) e).0).1 in
    ap (λ k. if k then squeeze a ys else (c ∷ squeeze (c == 32) ys)) (and_right a (c == 32) other) ∙ ap (λ k. c ∷ squeeze k ys) other

plain_char : (m : Mode) (a b : Bool) (c : ℕ) (ys cs : List ℕ) → is_white_code c ≡ false → Same false (squeeze false ys) cs → Same b (squeeze a (as_space m c ∷ ys)) (c ∷ cs)
plain_char m a b c ys cs cp same =
    subst (λ left. Same b left (c ∷ cs)) (sym (ap (λ d. squeeze a (d ∷ ys)) (plain_stays m c cp) ∙ plain_squeezed a c ys cp)) (both_plain b c (squeeze false ys) cs cp same)

-- characters that begin with blanks up to a linefeed, or with one
opens_white : (d : ℕ) (cs : List ℕ) → runs_to_linefeed (d ∷ cs) ≡ true → is_white_code d ≡ true
opens_white d cs e = one (is_blank d) refl e
  where
    one : (t : Bool) → is_blank d ≡ t → (if t then runs_to_linefeed cs else d == 10) ≡ true → is_white_code d ≡ true
    one true is e = ap (λ x. x || d == 10) is
    one false is e = or_right (is_blank d) (d == 10) e

row_runs : (cs : List ℕ) → runs_to_linefeed cs ≡ true → (words false cs ≡ 32 ∷ words true cs) × (ends_in_white false cs ≡ ends_in_white true cs)
row_runs [] e = absurd (true≢false (sym e))
row_runs (d ∷ cs) e =
    let dw = opens_white d cs e in
    (white_words false d cs dw ∙ ap (λ ws. 32 ∷ ws) (sym (white_words true d cs dw)), refl)

runs_dropped : (c : ℕ) (left cs : List ℕ) → is_white_code c ≡ true → runs_to_linefeed cs ≡ true → Same false left cs → Same false left (c ∷ cs)
runs_dropped c left cs cw runs same = record {
  words = same.words ∙ (row_runs cs runs).0 ∙ sym (white_words false c cs cw);
  ends = same.ends ∙ (row_runs cs runs).1 ∙ sym (ends_one false true c cs cw);
}

-- `b` says whether white space stands before, which is so where a space is squeezed out or blanks follow a linefeed
abbrev pub LeftSame : Mode → List ℕ → Type 0
LeftSame m cs = (l a b : Bool) → (a ≡ true → b ≡ true) → (l ≡ true → b ≡ true) → Same b (squeeze a (map (as_space m) (strip l cs))) cs

blank_dropped : (m : Mode) (c : ℕ) (cs : List ℕ) (l a b : Bool) → (a ≡ true → b ≡ true) → (l ≡ true → b ≡ true) → LeftSame m cs → is_white_code c ≡ true → (l || runs_to_linefeed cs) ≡ true
    → Same b (squeeze a (map (as_space m) (strip l cs))) (c ∷ cs)
blank_dropped m c cs l a true before feeds rest cw drops = dropped true c (squeeze a (map (as_space m) (strip l cs))) cs refl cw (rest l a true before feeds)
blank_dropped m c cs true a false before feeds rest cw drops = absurd (true≢false (sym (feeds refl)))
blank_dropped m c cs false a false before feeds rest cw drops = runs_dropped c (squeeze a (map (as_space m) (strip false cs))) cs cw drops (rest false a false before feeds)

left_one : (m : Mode) (c : ℕ) (cs : List ℕ) (l a b : Bool) → (a ≡ true → b ≡ true) → (l ≡ true → b ≡ true) → LeftSame m cs
    → (t drops feed : Bool) → is_blank c ≡ t → (l || runs_to_linefeed cs) ≡ drops → (c == 10) ≡ feed
    → Same b (squeeze a (map (as_space m) (if t then (if drops then strip l cs else (c ∷ strip l cs)) else (c ∷ strip feed cs)))) (c ∷ cs)
left_one m c cs l a b before feeds rest true true feed is drops fed = blank_dropped m c cs l a b before feeds rest (ap (λ x. x || c == 10) is) drops
left_one m c cs l a b before feeds rest true false feed is drops fed =
    white_char m a b c (map (as_space m) (strip l cs)) cs before (ap (λ x. x || c == 10) is) (λ next. rest l next true (λ e. refl) (λ e. refl))
left_one m c cs l a b before feeds rest false drops true is dropping fed =
    white_char m a b c (map (as_space m) (strip true cs)) cs before (or_right (is_blank c) (c == 10) fed) (λ next. rest true next true (λ e. refl) (λ e. refl))
left_one m c cs l a b before feeds rest false drops false is dropping fed =
    plain_char m a b c (map (as_space m) (strip false cs)) cs (ap (λ x. x || c == 10) is ∙ fed) (rest false false false (λ e. e) (λ e. e))

pub left_same : (m : Mode) (cs : List ℕ) → LeftSame m cs
left_same m [] l a b before feeds = record { words = refl; ends = refl }
left_same m (c ∷ cs) l a b before feeds = left_one m c cs l a b before feeds (left_same m cs) (is_blank c) (l || runs_to_linefeed cs) (c == 10) refl refl refl

space_is_white : (c : ℕ) → (c == 32) ≡ true → is_white_code c ≡ true
space_is_white c e = ap (λ x. (c == 9 || c == 13 || x) || c == 10) e ∙ ap (λ x. x || c == 10) (or_right (c == 9 || c == 13) true refl)

-- what stands behind a space stands behind white space
pub ends_white : (a b : Bool) (cs : List ℕ) → (a ≡ true → b ≡ true) → ends_in_space a cs ≡ true → ends_in_white b cs ≡ true
ends_white a b [] before e = before e
ends_white a b (c ∷ cs) before e = ends_white (c == 32) (is_white_code c) cs (space_is_white c) e
