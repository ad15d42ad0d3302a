-- Values that are read between three brackets, among others.
use Rattle.std.proofs.Common.{◌≡◌, ℕ, suc, ◌+◌, ◌≤◌, max, Bool, true, false, List, [], ◌∷◌, ◌++◌, length, Option, Some, None, option_map, option_and_then, refl, sym, ap, ap₂, ◌∙◌, subst, arith, length-append, append-nil, append_assoc}
use Rattle.std.proofs.lemmas.Bool.{false≢true}
use Rattle.json.specs.Token.{Token, begin_object, end_object, begin_array, end_array, key, string, number, boolean, null, bad}
use Rattle.json.specs.Lex.{Lexeme, token, comma, colon, between, lex, Place, fresh, after_value, after_comma, after_key, begins_colon, may_begin, may_close, if_allowed, place_token, punctuate, tokens}
use Rattle.json.specs.Json as json
use Rattle.json.specs.Json.{Json, if_last, value}
use Rattle.json.specs.Tree.{depth, items_depth, json_tokens, items_tokens}
use Rattle.json.proofs.Nesting.{value-depth}
use Rattle.json.proofs.Printed.Trees.{value-json_tokens}
use Rattle.json.proofs.Unique.Spelling.{value-json_tokens_back}
use Rattle.serde_json.specs.Data.{Num, Data, Items, Members}
use Rattle.serde_json.specs.Data as told
use Rattle.serde_json.specs.Read.{number_of, of_json, of_items, of_members, converted, read}
use Rattle.lay_json.specs.Spans.Modes.{behind, is_closed}
use Rattle.lay_json.specs.Spans.Readings.{ReadsItems, StandAs, three_deep}
use Rattle.lay_json.proofs.SpansLemmas.Fronts.{lexed}
use Rattle.lay_json.proofs.SpansLemmas.Punctuated.{NoBad, after_token, standing, opens, all_good, punctuated, no_bad, no_bad_then, ends_standing, standing_then, value_opens, from_place}

-- ---- a list that is closed

closed_allowed : (b : Bool) (t : Token) (k l : Place → List Token) (more : List Token) → ((n : Place) → NoBad (l n) → l n ≡ k n ++ more) → NoBad (if_allowed b t l (after_token t))
    → if_allowed b t l (after_token t) ≡ if_allowed b t k (after_token t) ++ more
closed_allowed true t k l more f g = ap (λ ts. t ∷ ts) (f (after_token t) g.1)
closed_allowed false t k l more f g = absurd (false≢true g.0)

closed_token : (p : Place) (t : Token) (b : Bool) (k l : Place → List Token) (more : List Token) → ((n : Place) → NoBad (l n) → l n ≡ k n ++ more) → NoBad (place_token p t b l)
    → place_token p t b l ≡ place_token p t b k ++ more
closed_token p begin_object b k l more f = closed_allowed (may_begin p) begin_object k l more f
closed_token p end_object b k l more f = closed_allowed (may_close p) end_object k l more f
closed_token p begin_array b k l more f = closed_allowed (may_begin p) begin_array k l more f
closed_token p end_array b k l more f = closed_allowed (may_close p) end_array k l more f
closed_token p (key s) b k l more f = λ g. absurd (false≢true g.0)
closed_token p (string s) true k l more f = closed_allowed (may_begin p) (key s) k l more f
closed_token p (string s) false k l more f = closed_allowed (may_begin p) (string s) k l more f
closed_token p (number s) b k l more f = closed_allowed (may_begin p) (number s) k l more f
closed_token p (boolean c) b k l more f = closed_allowed (may_begin p) (boolean c) k l more f
closed_token p null b k l more f = closed_allowed (may_begin p) null k l more f
closed_token p bad b k l more f = λ g. absurd (false≢true g.0)

module _ (us : List Lexeme) where
  abbrev closing : List Lexeme
  closing = token end_array ∷ us

  same_colon : (ls : List Lexeme) → begins_colon (ls ++ closing) ≡ begins_colon ls
  same_colon [] = refl
  same_colon (token t ∷ ls) = refl
  same_colon (comma ∷ ls) = refl
  same_colon (colon ∷ ls) = refl

  one_token : (p : Place) (t : Token) (ls : List Lexeme) → ((n : Place) → NoBad (punctuate n (ls ++ closing)) → punctuate n (ls ++ closing) ≡ punctuate n ls ++ end_array ∷ punctuate after_value us)
      → NoBad (place_token p t (begins_colon (ls ++ closing)) (λ n. punctuate n (ls ++ closing)))
      → place_token p t (begins_colon (ls ++ closing)) (λ n. punctuate n (ls ++ closing)) ≡ place_token p t (begins_colon ls) (λ n. punctuate n ls) ++ end_array ∷ punctuate after_value us
  one_token p t ls f g =
      closed_token p t (begins_colon (ls ++ closing)) (λ n. punctuate n ls) (λ n. punctuate n (ls ++ closing)) (end_array ∷ punctuate after_value us) f g
      ∙ ap (λ b. place_token p t b (λ n. punctuate n ls) ++ end_array ∷ punctuate after_value us) (same_colon ls)

  -- what comes before the bracket that closes a list
  pub before_end : (ls : List Lexeme) (p : Place) → NoBad (punctuate p (ls ++ closing)) → punctuate p (ls ++ closing) ≡ punctuate p ls ++ end_array ∷ punctuate after_value us
  unfolding punctuate
  before_end [] fresh g = refl
  before_end [] after_value g = refl
  before_end [] after_comma g = absurd (false≢true g.0)
  before_end [] after_key g = absurd (false≢true g.0)
  before_end (token t ∷ ls) fresh g = one_token fresh t ls (before_end ls) g
  before_end (token t ∷ ls) after_value g = one_token after_value t ls (before_end ls) g
  before_end (token t ∷ ls) after_comma g = one_token after_comma t ls (before_end ls) g
  before_end (token t ∷ ls) after_key g = one_token after_key t ls (before_end ls) g
  before_end (comma ∷ ls) fresh g = absurd (false≢true g.0)
  before_end (comma ∷ ls) after_value g = before_end ls after_comma g
  before_end (comma ∷ ls) after_comma g = absurd (false≢true g.0)
  before_end (comma ∷ ls) after_key g = absurd (false≢true g.0)
  before_end (colon ∷ ls) fresh g = absurd (false≢true g.0)
  before_end (colon ∷ ls) after_value g = absurd (false≢true g.0)
  before_end (colon ∷ ls) after_comma g = absurd (false≢true g.0)
  before_end (colon ∷ ls) after_key g = before_end ls fresh g

-- ---- the tokens of items without the bracket that closes them

abbrev pub body : json.Items → List Token
body json.no_items = []
body (json.item j js) = json_tokens j ++ body js

body_tokens : (js : json.Items) → items_tokens js ≡ body js ++ end_array ∷ []
body_tokens json.no_items = refl
body_tokens (json.item j js) = ap (λ ts. json_tokens j ++ ts) (body_tokens js) ∙ sym (append_assoc (json_tokens j) (body js) (end_array ∷ []))

body_no_bad : (js : json.Items) → NoBad (body js)
body_no_bad json.no_items = tt
body_no_bad (json.item j js) = no_bad_then (json_tokens j) (body js) (no_bad j) (body_no_bad js)

body_standing : (js : json.Items) → standing after_value (body js) ≡ after_value
body_standing json.no_items = refl
body_standing (json.item j js) = standing_then after_value (json_tokens j) (body js) ∙ ap (λ q. standing q (body js)) (ends_standing j after_value) ∙ body_standing js

some_standing : (j : Json) (js : json.Items) (p : Place) → standing p (body (json.item j js)) ≡ after_value
some_standing j js p = standing_then p (json_tokens j) (body js) ∙ ap (λ q. standing q (body js)) (ends_standing j p) ∙ body_standing js

opens_more : (ts us : List Token) → opens ts ≡ true → opens (ts ++ us) ≡ true
opens_more [] us h = absurd (false≢true h)
opens_more (begin_object ∷ ts) us h = refl
opens_more (end_object ∷ ts) us h = absurd (false≢true h)
opens_more (begin_array ∷ ts) us h = refl
opens_more (end_array ∷ ts) us h = absurd (false≢true h)
opens_more (key s ∷ ts) us h = refl
opens_more (string s ∷ ts) us h = refl
opens_more (number s ∷ ts) us h = refl
opens_more (boolean b ∷ ts) us h = refl
opens_more (null ∷ ts) us h = refl
opens_more (bad ∷ ts) us h = absurd (false≢true h)

abbrev head_or : Token → List Token → Token
head_or t [] = t
head_or t (u ∷ us) = u

abbrev tail_of : List Token → List Token
tail_of [] = []
tail_of (t ∷ ts) = ts

cancel : (xs ys zs : List Token) → xs ++ zs ≡ ys ++ zs → xs ≡ ys
cancel [] [] zs e = refl
cancel [] (y ∷ ys) zs e = absurd (omega (arith, ap length e, length-append ys zs))
cancel (x ∷ xs) [] zs e = absurd (omega (arith, ap length e, length-append xs zs))
cancel (x ∷ xs) (y ∷ ys) zs e = ap₂ (λ u us. u ∷ us) (ap (head_or x) e) (cancel xs ys zs (ap tail_of e))

-- ---- lists in lists

abbrev items_or : Items → Data → Items
items_or ds told.null = ds
items_or ds (told.boolean b) = ds
items_or ds (told.number n) = ds
items_or ds (told.string s) = ds
items_or ds (told.array es) = es
items_or ds (told.object ms) = ds

abbrev data_or : Data → Option Data → Data
data_or d None = d
data_or d (Some e) = e

no_number : (o : Option Num) (ds : Items) → option_map told.number o ≡ Some (told.array ds) → ⊥
no_number None ds e = absurd (cc)
no_number (Some n) ds e = absurd (cc)

no_object : (o : Option Members) (ds : Items) → option_map told.object o ≡ Some (told.array ds) → ⊥
no_object None ds e = absurd (cc)
no_object (Some ms) ds e = absurd (cc)

array_of : (o : Option Items) (ds : Items) → option_map told.array o ≡ Some (told.array ds) → o ≡ Some ds
array_of None ds e = absurd (cc)
array_of (Some es) ds e = ap (λ (x : Option Data). Some (items_or es (data_or (told.array es) x))) e

list_inside : (j : Json) (ds : Items) → of_json j ≡ Some (told.array ds) → (js : json.Items) × (j ≡ json.array js) × (of_items js ≡ Some ds)
list_inside json.null ds e = absurd (cc)
list_inside (json.boolean b) ds e = absurd (cc)
list_inside (json.number s) ds e = absurd (no_number (number_of s) ds e)
list_inside (json.string s) ds e = absurd (cc)
list_inside (json.array js) ds e = (js, refl, array_of (of_items js) ds e)
list_inside (json.object ms) ds e = absurd (no_object (of_members ms told.no_members) ds e)

abbrev first_or : Data → Option Items → Data
first_or d None = d
first_or d (Some told.no_items) = d
first_or d (Some (told.item e es)) = e

abbrev later_or : Items → Option Items → Items
later_or ds None = ds
later_or ds (Some told.no_items) = ds
later_or ds (Some (told.item e es)) = es

both_read : (o : Option Data) (r : Option Items) (d : Data) (ds : Items) → option_and_then (λ e. option_map (told.item e) r) o ≡ Some (told.item d ds) → (o ≡ Some d) × (r ≡ Some ds)
both_read None r d ds e = absurd (cc)
both_read (Some a) None d ds e = absurd (cc)
both_read (Some a) (Some es) d ds e = (ap (λ x. Some (first_or a x)) e, ap (λ x. Some (later_or es x)) e)

none_read : (o : Option Data) (r : Option Items) → option_and_then (λ e. option_map (told.item e) r) o ≡ Some told.no_items → ⊥
none_read None r e = absurd (cc)
none_read (Some a) None e = absurd (cc)
none_read (Some a) (Some es) e = absurd (cc)

no_more : (js : json.Items) → of_items js ≡ Some told.no_items → js ≡ json.no_items
no_more json.no_items e = refl
no_more (json.item j js) e = absurd (none_read (of_json j) (of_items js) e)

one_inside : (js : json.Items) (d : Data) → of_items js ≡ Some (told.item d told.no_items) → (j : Json) × (js ≡ json.item j json.no_items) × (of_json j ≡ Some d)
one_inside json.no_items d e = absurd (cc)
one_inside (json.item j js) d e =
    let both = both_read (of_json j) (of_items js) d told.no_items e in
    (j, ap (json.item j) (no_more js both.1), both.0)

inner : (j : Json) (ds : Items) → of_json j ≡ Some (three_deep ds)
    → (js : json.Items) × (j ≡ json.array (json.item (json.array (json.item (json.array js) json.no_items)) json.no_items)) × (of_items js ≡ Some ds)
inner j ds e =
    let a = list_inside j _ e in
    let b = one_inside a.0 _ a.2 in
    let c = list_inside b.0 _ b.2 in
    let d = one_inside c.0 _ c.2 in
    let f = list_inside d.0 _ d.2 in
    (f.0, a.1 ∙ ap json.array (b.1 ∙ ap (λ x. json.item x json.no_items) (c.1 ∙ ap json.array (d.1 ∙ ap (λ x. json.item x json.no_items) f.1))), f.2)

unread : (o : Option (Json × List Token)) (d : Data) → option_and_then of_json (option_and_then (λ p. if_last p.0 p.1) o) ≡ Some d → (j : Json) × (o ≡ Some (j, [])) × (of_json j ≡ Some d)
unread None d e = absurd (cc)
unread (Some (j, [])) d e = (j, refl, e)
unread (Some (j, t ∷ ts)) d e = absurd (cc)

-- ---- values among others

reads : (js : json.Items) (ds : Items) (more : List Token) → of_items js ≡ Some ds → items_depth js ≤ 124 → ReadsItems 124 (body js ++ more) ds more
reads json.no_items told.no_items more e few = refl
reads json.no_items (told.item d ds) more e few = absurd (cc)
reads (json.item j js) told.no_items more e few = absurd (none_read (of_json j) (of_items js) e)
reads (json.item j js) (told.item d ds) more e few =
    let both = both_read (of_json j) (of_items js) d ds e in
    let at = append_assoc (json_tokens j) (body js) more in
    let got = ap (value 124) at ∙ value-json_tokens j 124 (body js ++ more) (grind (arith, few)) in
    (body js ++ more, ap (converted of_json) got ∙ ap (option_map (λ b. (b, body js ++ more))) both.0, reads js ds more both.1 (grind (arith, few)))

abbrev brackets : List ℕ
brackets = 93 ∷ 93 ∷ 93 ∷ []

unwrapped : (own : List ℕ) → tokens (91 ∷ 91 ∷ 91 ∷ (own ++ brackets)) ≡ begin_array ∷ begin_array ∷ begin_array ∷ punctuate fresh (lex between (own ++ brackets))
unfolding lex punctuate
unwrapped own = refl

closes : lex between brackets ≡ token end_array ∷ token end_array ∷ token end_array ∷ []
unfolding lex
closes = refl

closed_twice : punctuate after_value (token end_array ∷ token end_array ∷ []) ≡ end_array ∷ end_array ∷ []
unfolding punctuate
closed_twice = refl

abbrev behind_first : List Token → List Token
behind_first [] = []
behind_first (t ∷ ts) = ts

spelled : (own : List ℕ) (j : Json) (js : json.Items) → value 127 (tokens (91 ∷ 91 ∷ 91 ∷ (own ++ brackets))) ≡ Some (j, []) → j ≡ json.array (json.item (json.array (json.item (json.array js) json.no_items)) json.no_items)
    → punctuate fresh (lex between (own ++ brackets)) ≡ (items_tokens js ++ end_array ∷ []) ++ end_array ∷ []
spelled own j js e is =
    let whole = sym (unwrapped own) ∙ value-json_tokens_back 127 (tokens (91 ∷ 91 ∷ 91 ∷ (own ++ brackets))) [] j e ∙ append-nil (json_tokens j) ∙ ap json_tokens is in
    ap (λ ts. behind_first (behind_first (behind_first ts))) whole

shallow : (js : json.Items) (j : Json) → j ≡ json.array (json.item (json.array (json.item (json.array js) json.no_items)) json.no_items) → depth j ≤ 127 → items_depth js ≤ 124
shallow js j is le =
    let same : depth j ≡ suc (max (suc (max (suc (items_depth js)) 0)) 0) = ap depth is in
    grind (arith, le, same)

stands : (own : List ℕ) (j : Json) (js : json.Items) (d : Data) (ds : Items) → value 127 (tokens (91 ∷ 91 ∷ 91 ∷ (own ++ brackets))) ≡ Some (j, [])
    → j ≡ json.array (json.item (json.array (json.item (json.array js) json.no_items)) json.no_items) → of_items js ≡ Some (told.item d ds) → is_closed (behind between own) ≡ true → StandAs 124 own (told.item d ds)
stands own j json.no_items d ds e is said closed rest p ended no_colon begins = absurd (cc)
stands own j (json.item j1 js1) d ds e is said closed rest p ended no_colon begins =
    let js = json.item j1 js1 in
    let said_tokens = spelled own j js e is in
    let fine : NoBad (punctuate fresh (lex between (own ++ brackets))) =
    subst NoBad (sym said_tokens) (no_bad_then (items_tokens js ++ end_array ∷ []) (end_array ∷ []) (no_bad_then (items_tokens js) (end_array ∷ []) (no_bad_items_of js) (refl, tt)) (refl, tt)) in
    let parts = lexed brackets rest refl ended own between closed (all_good (lex between (own ++ brackets)) fresh fine) in
    let front = parts.0 in
    let cut : lex between (own ++ brackets) ≡ front ++ token end_array ∷ token end_array ∷ token end_array ∷ [] = parts.1 ∙ ap (λ ls. front ++ ls) closes in
    let ended_front = before_end (token end_array ∷ token end_array ∷ []) front fresh (subst (λ ls. NoBad (punctuate fresh ls)) cut fine) ∙ ap (λ ts. punctuate fresh front ++ end_array ∷ ts) closed_twice in
    let tail : (items_tokens js ++ end_array ∷ []) ++ end_array ∷ [] ≡ body js ++ end_array ∷ end_array ∷ end_array ∷ [] =
    append_assoc (items_tokens js) (end_array ∷ []) (end_array ∷ []) ∙ ap (λ ts. ts ++ end_array ∷ end_array ∷ []) (body_tokens js) ∙ append_assoc (body js) (end_array ∷ []) (end_array ∷ end_array ∷ []) in
    let first : punctuate fresh front ≡ body js =
    cancel (punctuate fresh front) (body js) (end_array ∷ end_array ∷ end_array ∷ []) (sym ended_front ∙ sym (ap (punctuate fresh) cut) ∙ said_tokens ∙ tail) in
    let here : punctuate p front ≡ body js = from_place front p begins (ap opens first ∙ opens_more (json_tokens j1) (body js1) (value_opens j1)) ∙ first in
    let split = punctuated (lex between rest) no_colon front p (subst NoBad (sym here) (body_no_bad js)) (ap (standing p) here ∙ some_standing j1 js1 p) in
    let more = punctuate after_value (lex between rest) in
    let whole : punctuate p (lex between (own ++ rest)) ≡ body js ++ more = ap (punctuate p) parts.2 ∙ split ∙ ap (λ ts. ts ++ more) here in
    subst (λ ts. ReadsItems 124 ts (told.item d ds) more) (sym whole) (reads js (told.item d ds) more said (shallow js j is (value-depth 127 (tokens (91 ∷ 91 ∷ 91 ∷ (own ++ brackets))) [] j e)))
  where
    no_bad_items_of : (js : json.Items) → NoBad (items_tokens js)
    no_bad_items_of js = subst NoBad (sym (body_tokens js)) (no_bad_then (body js) (end_array ∷ []) (body_no_bad js) (refl, tt))

pub stand_as : (own : List ℕ) (d : Data) (ds : Items) → read (91 ∷ 91 ∷ 91 ∷ (own ++ brackets)) ≡ Some (three_deep (told.item d ds)) → is_closed (behind between own) ≡ true → StandAs 124 own (told.item d ds)
stand_as own d ds e closed =
    let j = unread (value 127 (tokens (91 ∷ 91 ∷ 91 ∷ (own ++ brackets)))) _ e in
    let js = inner j.0 (told.item d ds) j.2 in
    stands own j.0 js.0 d ds j.1 js.1 js.2 closed

-- ---- one value alone

abbrev only_or : Data → Data → Data
only_or d told.null = d
only_or d (told.boolean b) = d
only_or d (told.number n) = d
only_or d (told.string s) = d
only_or d (told.array told.no_items) = d
only_or d (told.array (told.item e es)) = e
only_or d (told.object ms) = d

abbrev others_or : Items → Data → Items
others_or ds told.null = ds
others_or ds (told.boolean b) = ds
others_or ds (told.number n) = ds
others_or ds (told.string s) = ds
others_or ds (told.array told.no_items) = ds
others_or ds (told.array (told.item e es)) = es
others_or ds (told.object ms) = ds

alone : (ts new : List Token) (rest : Items) → rest ≡ told.no_items → ReadsItems 124 ts rest new → ts ≡ new
alone ts new told.no_items is a = a
alone ts new (told.item d ds) is a = absurd (cc)

pub one_value : (old new : List Token) (first d : Data) (rest : Items) → told.array (told.item first rest) ≡ told.array (told.item d told.no_items) → ReadsItems 124 old (told.item first rest) new
    → converted of_json (value 124 old) ≡ Some (d, new)
one_value old new first d rest is a =
    a.1 ∙ ap (λ (x : Data). Some (x, a.0)) (ap (only_or first) is) ∙ ap (λ (ts : List Token). Some (d, ts)) (alone a.0 new rest (ap (others_or rest) is) a.2)
