-- Breaks leave the content as it is.
use Rattle.std.proofs.Common.{◌≡◌, ◌++◌, Bool, true, false, cond, if◌then◌else◌, ◌&&◌, ◌||◌, not, List, [], ◌∷◌, Option, Some, None, refl, sym, ap, ◌∙◌, append_assoc, append-nil}
use Rattle.std.specs.List.{filter}
use Rattle.std.proofs.lemmas.List.Elements.{filter-append}
use Rattle.std.proofs.lemmas.Bool.{not-true, not-false, both_ways, or_parts}
use Rattle.lay_space.specs.declared.tokens.Token.{Token}
use Rattle.lay_space.specs.declared.tokens.Token.TheVariants.{Cluster, TextEnd, Atomic, Start, End, Float, Anchor}
use Rattle.lay_space.specs.declared.breaks.Entry.{Entry}
use Rattle.lay_space.specs.declared.breaks.Entry.TheVariants.{Content, Break}
use Rattle.lay_space.specs.Breaks.{broken, front_break, back_break, break_after, breaks_before, solid_after, is_solid_token, settled, goes_back, waits, is_start, flushed, entries_of}
use Rattle.lay_space.specs.Laws.{content_of, is_token_out_of_flow, floats_pass, BreaksKeepContent}

content_append : (a b : List Entry) → content_of (a ++ b) ≡ content_of a ++ content_of b
content_append [] b = refl
content_append (Content x ∷ a) b = ap (λ xs. x ∷ xs) (content_append a b)
content_append (Break f ∷ a) b = content_append a b

content_flushed : (at : Option Bool) (held : List Entry) → content_of (flushed at held) ≡ content_of held
content_flushed None held = refl
content_flushed (Some f) held = refl

-- what passes the test, of the content of entries
abbrev pub passing : (Token → Bool) → List Entry → List Token
passing p es = filter p (content_of es)

passing_append : (p : Token → Bool) (a b : List Entry) → passing p (a ++ b) ≡ passing p a ++ passing p b
passing_append p a b = ap (filter p) (content_append a b) ∙ filter-append p (content_of a) (content_of b)

-- what waits behind a break when this goes back before it doesn't pass if this does
abbrev pub Stays : (Token → Bool) → (Bool → Bool → List Entry → Type 0) → Type 0
Stays p Holds = (x : Token) (f started : Bool) (held : List Entry) → Holds f started held → goes_back x f started ≡ true → p x ≡ true → passing p held ≡ []

abbrev pub Grows : (Bool → Bool → List Entry → Type 0) → Type 0
Grows Holds = (x : Token) (f started : Bool) (held : List Entry) → Holds f started held → goes_back x f started ≡ false → waits x ≡ true → Holds f (started || is_start x) (held ++ Content x ∷ [])

front_moved : (b : Bool) (x : Token) (h rest : List Token) → (b ≡ true → h ≡ []) → cond b (x ∷ h ++ rest) (h ++ rest) ≡ h ++ cond b (x ∷ rest) rest
front_moved true x h rest none = ap (λ a. x ∷ a ++ rest) (none refl) ∙ sym (ap (λ a. a ++ x ∷ rest) (none refl))
front_moved false x h rest none = refl

at_end : (p : Token → Bool) (at : Option Bool) (held : List Entry) (x : Token) (rest : List Entry) (xs : List Entry) → passing p rest ≡ passing p xs
    → passing p (flushed at held ++ Content x ∷ rest) ≡ passing p held ++ passing p (Content x ∷ xs)
at_end p at held x rest xs e =
    passing_append p (flushed at held) (Content x ∷ rest) ∙ ap (λ a. filter p a ++ passing p (Content x ∷ rest)) (content_flushed at held)
    ∙ ap (λ a. passing p held ++ cond (p x) (x ∷ a) a) e

one : (p : Token → Bool) (x : Token) (f started : Bool) (held xs : List Entry) (b w : Bool) → passing p (settled (Some f) started held xs) ≡ passing p held ++ passing p xs
    → (b ≡ false → w ≡ true → passing p (settled (Some f) (started || is_start x) (held ++ Content x ∷ []) xs) ≡ passing p (held ++ Content x ∷ []) ++ passing p xs)
    → passing p (settled None false [] xs) ≡ passing p xs → (b ≡ true → p x ≡ true → passing p held ≡ [])
    → passing p (if b then Content x ∷ settled (Some f) started held xs
    else (if w then settled (Some f) (started || is_start x) (held ++ Content x ∷ []) xs else flushed (Some f) held ++ Content x ∷ settled None false [] xs))
    ≡ passing p held ++ passing p (Content x ∷ xs)
one p x f started held xs true w same more none stays =
    ap (λ a. cond (p x) (x ∷ a) a) same ∙ front_moved (p x) x (passing p held) (passing p xs) (stays refl)
one p x f started held xs false true same more none stays =
    more refl refl ∙ ap (λ a. a ++ passing p xs) (passing_append p held (Content x ∷ [])) ∙ append_assoc (passing p held) _ _
    ∙ ap (λ a. passing p held ++ a) (sym (filter-append p (x ∷ []) (content_of xs)))
one p x f started held xs false false same more none stays = at_end p (Some f) held x (settled None false [] xs) xs none

abbrev pub HoldsAt : (Bool → Bool → List Entry → Type 0) → Option Bool → Bool → List Entry → Type 0
HoldsAt Holds None started held = Unit {0}
HoldsAt Holds (Some f) started held = Holds f started held

keeps : (p : Token → Bool) (Holds : Bool → Bool → List Entry → Type 0) → Stays p Holds → Grows Holds → ((f : Bool) → Holds f false []) → (at : Option Bool) (started : Bool) (held xs : List Entry)
    → HoldsAt Holds at started held → passing p (settled at started held xs) ≡ passing p held ++ passing p xs
keeps p Holds stays grows fresh at started held [] is = ap (filter p) (content_flushed at held) ∙ sym (append-nil (passing p held))
keeps p Holds stays grows fresh at started held (Break f ∷ xs) is =
    passing_append p (flushed at held) _ ∙ ap (λ a. filter p a ++ passing p (settled (Some f) false [] xs)) (content_flushed at held)
    ∙ ap (λ a. passing p held ++ a) (keeps p Holds stays grows fresh (Some f) false [] xs (fresh f))
keeps p Holds stays grows fresh None started held (Content x ∷ xs) is = at_end p None held x (settled None false [] xs) xs (keeps p Holds stays grows fresh None false [] xs tt)
keeps p Holds stays grows fresh (Some f) started held (Content x ∷ xs) is =
    one p x f started held xs (goes_back x f started) (waits x) (keeps p Holds stays grows fresh (Some f) started held xs is)
    (λ e w. keeps p Holds stays grows fresh (Some f) (started || is_start x) (held ++ Content x ∷ []) xs (grows x f started held is e w))
    (keeps p Holds stays grows fresh None false [] xs tt) (λ e passes. stays x f started held is e passes)

content_one : (a : Bool) (b : Option Bool) (x : Token) (es : List Entry) → content_of (front_break a ++ Content x ∷ back_break b ++ es) ≡ x ∷ content_of es
content_one true None x es = refl
content_one true (Some f) x es = refl
content_one false None x es = refl
content_one false (Some f) x es = refl

pub content_broken : (solid : Bool) (xs : List Token) → content_of (broken solid xs) ≡ xs
content_broken solid [] = refl
content_broken solid (x ∷ xs) =
    let after = solid_after (break_after x xs) ((solid && not (breaks_before x xs)) || is_solid_token x) in
    content_one (solid && breaks_before x xs) (break_after x xs) x (broken after xs) ∙ ap (λ ys. x ∷ ys) (content_broken after xs)

keeps_all : (p : Token → Bool) (Holds : Bool → Bool → List Entry → Type 0) → Stays p Holds → Grows Holds → ((f : Bool) → Holds f false []) → (xs : List Token)
    → filter p (content_of (entries_of xs)) ≡ filter p xs
keeps_all p Holds stays grows fresh xs = keeps p Holds stays grows fresh None false [] (broken false xs) tt ∙ ap (filter p) (content_broken false xs)

-- one more that doesn't pass
none_more : (p : Token → Bool) (held : List Entry) (x : Token) → p x ≡ false → passing p held ≡ [] → passing p (held ++ Content x ∷ []) ≡ []
none_more p held x fails none = passing_append p held (Content x ∷ []) ∙ ap (λ b. passing p held ++ cond b (x ∷ []) []) fails ∙ append-nil (passing p held) ∙ none

abbrev pub in_flow : Token → Bool
in_flow x = not (is_token_out_of_flow x)

-- the start of an inline box is the first in flow that waits
abbrev pub WaitsInFlow : Bool → Bool → List Entry → Type 0
WaitsInFlow f started held = started ≡ false → passing in_flow held ≡ []

flow_stays : Stays in_flow WaitsInFlow
flow_stays (Cluster c) f started held is back passes = absurd cc
flow_stays TextEnd f started held is back passes = is (not-true started back)
flow_stays (Atomic n m) f started held is back passes = absurd cc
flow_stays (Start n takes) f started held is back passes = absurd cc
flow_stays (End n) f started held is back passes = is (not-true started back)
flow_stays (Float n) f started held is back passes = absurd cc
flow_stays (Anchor n) f started held is back passes = absurd cc

flow_grows : Grows WaitsInFlow
flow_grows (Cluster c) f started held is stays can = absurd cc
flow_grows TextEnd f started held is stays can = λ e. absurd (both_ways started (or_parts started false e).0 (not-false started stays))
flow_grows (Atomic n m) f started held is stays can = absurd cc
flow_grows (Start n takes) f started held is stays can = λ e. absurd (both_ways true (or_parts started true e).1 refl)
flow_grows (End n) f started held is stays can = λ e. absurd (both_ways started (or_parts started false e).0 (not-false started stays))
flow_grows (Float n) f started held is stays can = λ e. none_more in_flow held (Float n) refl (is (or_parts started false e).0)
flow_grows (Anchor n) f started held is stays can = λ e. none_more in_flow held (Anchor n) refl (is (or_parts started false e).0)

-- behind a break that isn't forced no float waits
abbrev pub WaitsOut : Bool → Bool → List Entry → Type 0
WaitsOut f started held = f ≡ false → passing is_token_out_of_flow held ≡ []

out_stays : Stays is_token_out_of_flow WaitsOut
out_stays (Cluster c) f started held is back passes = absurd cc
out_stays TextEnd f started held is back passes = absurd cc
out_stays (Atomic n m) f started held is back passes = absurd cc
out_stays (Start n takes) f started held is back passes = absurd cc
out_stays (End n) f started held is back passes = absurd cc
out_stays (Float n) f started held is back passes = is (not-true f back)
out_stays (Anchor n) f started held is back passes = is (not-true f back)

out_grows : Grows WaitsOut
out_grows (Cluster c) f started held is stays can = absurd cc
out_grows TextEnd f started held is stays can = λ e. none_more is_token_out_of_flow held TextEnd refl (is e)
out_grows (Atomic n m) f started held is stays can = absurd cc
out_grows (Start n takes) f started held is stays can = λ e. none_more is_token_out_of_flow held (Start n takes) refl (is e)
out_grows (End n) f started held is stays can = λ e. none_more is_token_out_of_flow held (End n) refl (is e)
out_grows (Float n) f started held is stays can = λ e. absurd (both_ways f e (not-false f stays))
out_grows (Anchor n) f started held is stays can = λ e. absurd (both_ways f e (not-false f stays))

abbrev pub is_met : Token → Bool
is_met x = not (floats_pass x)

-- behind a break that isn't forced waits nothing that a float doesn't pass
abbrev pub WaitsMet : Bool → Bool → List Entry → Type 0
WaitsMet f started held = f ≡ false → passing is_met held ≡ []

met_stays : Stays is_met WaitsMet
met_stays (Cluster c) f started held is back passes = absurd cc
met_stays TextEnd f started held is back passes = absurd cc
met_stays (Atomic n m) f started held is back passes = absurd cc
met_stays (Start n takes) f started held is back passes = absurd cc
met_stays (End n) f started held is back passes = absurd cc
met_stays (Float n) f started held is back passes = is (not-true f back)
met_stays (Anchor n) f started held is back passes = is (not-true f back)

met_grows : Grows WaitsMet
met_grows (Cluster c) f started held is stays can = absurd cc
met_grows TextEnd f started held is stays can = λ e. none_more is_met held TextEnd refl (is e)
met_grows (Atomic n m) f started held is stays can = absurd cc
met_grows (Start n takes) f started held is stays can = λ e. none_more is_met held (Start n takes) (ap not can) (is e)
met_grows (End n) f started held is stays can = λ e. none_more is_met held (End n) refl (is e)
met_grows (Float n) f started held is stays can = λ e. absurd (both_ways f e (not-false f stays))
met_grows (Anchor n) f started held is stays can = λ e. absurd (both_ways f e (not-false f stays))

pub breaks_keep_content_lem : BreaksKeepContent
breaks_keep_content_lem xs = record {
  flow = keeps_all in_flow WaitsInFlow flow_stays flow_grows (λ f e. refl) xs;
  out_of_flow = keeps_all is_token_out_of_flow WaitsOut out_stays out_grows (λ f e. refl) xs;
  met = keeps_all is_met WaitsMet met_stays met_grows (λ f e. refl) xs;
}
