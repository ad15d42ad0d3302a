-- Ends stand before breaks, and so do floats and anchors without content between.
use Rattle.std.proofs.Common.{ℕ, ◌++◌, Bool, true, false, ◌&&◌, ◌||◌, not, List, [], ◌∷◌, Some, None, refl, sym, subst, append_assoc, append-nil}
use Rattle.std.proofs.lemmas.Bool.{true≢false}
use Rattle.lay_space.specs.declared.tokens.Token.{Token}
use Rattle.lay_space.specs.declared.tokens.Token.TheVariants.{Cluster, TextEnd, Atomic, Start, End, Float, Anchor}
use Rattle.lay_space.specs.declared.breaks.Entry.{Entry}
use Rattle.lay_space.specs.declared.breaks.Entry.TheVariants.{Content, Break}
use Rattle.lay_space.specs.Breaks.{broken, settled, flushed}
use Rattle.lay_space.specs.BreakSides.{EndsStandBefore, FloatsStandBefore, BreaksStandBetween}
use Rattle.lay_space.proofs.AnchorEntries.{Full, broken_full}

abbrev pub Both : List Entry → Type 0
Both es = EndsStandBefore false es × FloatsStandBefore false es

-- what waits behind a break may stand before entries that stand right there
abbrev pub Right : Bool → Bool → List Entry → Type 0
Right g started rest = EndsStandBefore (not started) rest × FloatsStandBefore (not g) rest

abbrev pub Held : Bool → Bool → List Entry → Type 0
Held g started held = (rest : List Entry) → Right g started rest → EndsStandBefore true (held ++ rest) × FloatsStandBefore (not g) (held ++ rest)

flush : (g started : Bool) (held rest : List Entry) → Held g started held → Right g started rest → Both (flushed (Some g) held ++ rest)
flush g started held rest waits is = waits rest is

more : (g started started' : Bool) (held : List Entry) (x : Token) → Held g started held → ((rest : List Entry) → Right g started' rest → Right g started (Content x ∷ rest)) → Held g started' (held ++ Content x ∷ [])
more g started started' held x waits next rest is =
    subst (λ es. EndsStandBefore true es × FloatsStandBefore (not g) es) (sym (append_assoc held (Content x ∷ []) rest)) (waits (Content x ∷ rest) (next rest is))

behind_start : (b : Bool) (es : List Entry) → FloatsStandBefore b es → FloatsStandBefore (b && true) es
behind_start true es is = is
behind_start false es is = is

behind_room : (b : Bool) (es : List Entry) → FloatsStandBefore false es → FloatsStandBefore (b && false) es
behind_room true es is = is
behind_room false es is = is

none_right : (s : Bool) (es : List Entry) → EndsStandBefore (not (s || true)) es → EndsStandBefore false es
none_right true es is = is
none_right false es is = is

pub record Sides (es : List Entry) : Type 0 where
  pub none : (solid : Bool) → Full solid es → Both (settled None false [] es)
  pub some : (g started : Bool) (held : List Entry) → Full false es → Held g started held → Both (settled (Some g) started held es)

abbrev pub One : Token → List Entry → Type 0
One x es = (g started : Bool) (held : List Entry) → Full false es → Held g started held → Both (settled (Some g) started held (Content x ∷ es))

text_end_one : (es : List Entry) → Sides es → One TextEnd es
text_end_one es rest g true held full waits = rest.some g true (held ++ Content TextEnd ∷ []) full (more g true true held TextEnd waits (λ r is. ((refl, is.0), is.1)))
text_end_one es rest g false held full waits = let s = rest.some g false held full waits in ((refl, s.0), s.1)

end_one : (n : ℕ) (es : List Entry) → Sides es → One (End n) es
end_one n es rest g true held full waits = rest.some g true (held ++ Content (End n) ∷ []) full (more g true true held (End n) waits (λ r is. ((refl, is.0), is.1)))
end_one n es rest g false held full waits = let s = rest.some g false held full waits in ((refl, s.0), s.1)

start_one : (n : ℕ) (takes : Bool) (es : List Entry) → Sides es → One (Start n takes) es
start_one n true es rest g started held full waits =
    let s = rest.none false full in
    flush g started held (Content (Start n true) ∷ settled None false [] es) waits (s.0, behind_room (not g) (settled None false [] es) s.1)
start_one n false es rest g started held full waits =
    rest.some g (started || true) (held ++ Content (Start n false) ∷ []) full
    (more g started (started || true) held (Start n false) waits (λ r is. (none_right started r is.0, behind_start (not g) r is.1)))

unstarted : (s : Bool) (es : List Entry) → EndsStandBefore (not (s || false)) es → EndsStandBefore (not s) es
unstarted true es is = is
unstarted false es is = is

float_one : (n : ℕ) (es : List Entry) → Sides es → One (Float n) es
float_one n es rest true started held full waits =
    rest.some true (started || false) (held ++ Content (Float n) ∷ []) full (more true started (started || false) held (Float n) waits (λ r is. (unstarted started r is.0, (refl, is.1))))
float_one n es rest false started held full waits = let s = rest.some false started held full waits in (s.0, (refl, s.1))

anchor_one : (n : ℕ) (es : List Entry) → Sides es → One (Anchor n) es
anchor_one n es rest true started held full waits =
    rest.some true (started || false) (held ++ Content (Anchor n) ∷ []) full (more true started (started || false) held (Anchor n) waits (λ r is. (unstarted started r is.0, (refl, is.1))))
anchor_one n es rest false started held full waits = let s = rest.some false started held full waits in (s.0, (refl, s.1))

sides : (es : List Entry) → Sides es
sides [] = record {
  none = λ solid full. (tt, tt);
  some = λ g started held full waits. subst Both (append-nil (flushed (Some g) held)) (flush g started held [] waits (tt, tt));
}
sides (Break f ∷ es) =
    let rest = sides es in
    record {
      none = λ solid full. rest.some f false [] full.1 (λ r is. is);
      some = λ g started held full waits. absurd (true≢false (sym full.0));
    }
sides (Content (Cluster c) ∷ es) =
    let rest = sides es in
    record {
      none = λ solid full. rest.none (solid || true) full;
      some = λ g started held full waits. flush g started held (Content (Cluster c) ∷ settled None false [] es) waits (rest.none true full);
    }
sides (Content TextEnd ∷ es) =
    let rest = sides es in
    record {
      none = λ solid full. let s = rest.none (solid || false) full in ((refl, s.0), s.1);
      some = text_end_one es rest;
    }
sides (Content (Atomic n m) ∷ es) =
    let rest = sides es in
    record {
      none = λ solid full. rest.none (solid || true) full;
      some = λ g started held full waits. flush g started held (Content (Atomic n m) ∷ settled None false [] es) waits (rest.none true full);
    }
sides (Content (Start n takes) ∷ es) =
    let rest = sides es in
    record { none = λ solid full. rest.none (solid || false) full; some = start_one n takes es rest }
sides (Content (End n) ∷ es) =
    let rest = sides es in
    record {
      none = λ solid full. let s = rest.none (solid || false) full in ((refl, s.0), s.1);
      some = end_one n es rest;
    }
sides (Content (Float n) ∷ es) =
    let rest = sides es in
    record {
      none = λ solid full. let s = rest.none (solid || false) full in (s.0, (refl, s.1));
      some = float_one n es rest;
    }
sides (Content (Anchor n) ∷ es) =
    let rest = sides es in
    record {
      none = λ solid full. let s = rest.none (solid || false) full in (s.0, (refl, s.1));
      some = anchor_one n es rest;
    }

pub breaks_stand_between_lem : BreaksStandBetween
breaks_stand_between_lem xs = (sides (broken false xs)).none false (broken_full xs)
