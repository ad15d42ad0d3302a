-- The tokens of lexemes with others after them.
use Rattle.std.proofs.Common.{◌≡◌, ℕ, List, [], ◌∷◌, ◌++◌, Bool, true, false, refl, ap, ◌∙◌}
use Rattle.std.proofs.lemmas.Bool.{false≢true}
use Rattle.std.specs.Prelude.{⊤}
use Rattle.json.specs.Token.{Token, begin_object, end_object, begin_array, end_array, key, string, number, boolean, null, bad}
use Rattle.json.specs.Align.{is_good}
use Rattle.json.specs.Lex.{Lexeme, token, comma, colon, Place, fresh, after_value, after_comma, after_key, begins_colon, may_begin, may_close, if_allowed, place_token, punctuate}
use Rattle.json.specs.Json.{Json, null as null_value, boolean as boolean_value, number as number_value, string as string_value, array, object, Items, no_items, item, Members, no_members, member}
use Rattle.json.specs.Tree.{json_tokens, items_tokens, members_tokens}
use Rattle.lay_json.proofs.SpansLemmas.Fronts.{AllGood}

abbrev pub NoBad : List Token → Type 0
NoBad [] = ⊤
NoBad (t ∷ ts) = (is_good t ≡ true) × NoBad ts

abbrev pub after_token : Token → Place
after_token begin_object = fresh
after_token end_object = after_value
after_token begin_array = fresh
after_token end_array = after_value
after_token (key s) = after_key
after_token (string s) = after_value
after_token (number s) = after_value
after_token (boolean b) = after_value
after_token null = after_value
after_token bad = fresh

-- where the last token leaves the reader
abbrev pub standing : Place → List Token → Place
standing p [] = p
standing p (t ∷ ts) = standing (after_token t) ts

allowed_good : (b : Bool) (t : Token) (k : Place → List Token) (n : Place) (X : Type 0) → (NoBad (k n) → X) → NoBad (if_allowed b t k n) → X
allowed_good true t k n X f g = f g.1
allowed_good false t k n X f g = absurd (false≢true g.0)

token_good : (p : Place) (t : Token) (b : Bool) (k : Place → List Token) (X : Type 0) → ((n : Place) → NoBad (k n) → X) → NoBad (place_token p t b k) → (is_good t ≡ true) × X
token_good p begin_object b k X f g = (refl, allowed_good (may_begin p) begin_object k fresh X (f fresh) g)
token_good p end_object b k X f g = (refl, allowed_good (may_close p) end_object k after_value X (f after_value) g)
token_good p begin_array b k X f g = (refl, allowed_good (may_begin p) begin_array k fresh X (f fresh) g)
token_good p end_array b k X f g = (refl, allowed_good (may_close p) end_array k after_value X (f after_value) g)
token_good p (key s) b k X f g = absurd (false≢true g.0)
token_good p (string s) true k X f g = (refl, allowed_good (may_begin p) (key s) k after_key X (f after_key) g)
token_good p (string s) false k X f g = (refl, allowed_good (may_begin p) (string s) k after_value X (f after_value) g)
token_good p (number s) b k X f g = (refl, allowed_good (may_begin p) (number s) k after_value X (f after_value) g)
token_good p (boolean c) b k X f g = (refl, allowed_good (may_begin p) (boolean c) k after_value X (f after_value) g)
token_good p null b k X f g = (refl, allowed_good (may_begin p) null k after_value X (f after_value) g)
token_good p bad b k X f g = absurd (false≢true g.0)

-- lexemes whose tokens are good are good
pub all_good : (ls : List Lexeme) (p : Place) → NoBad (punctuate p ls) → AllGood ls
unfolding punctuate
all_good [] p g = tt
all_good (token t ∷ ls) fresh g = token_good fresh t (begins_colon ls) (λ n. punctuate n ls) (AllGood ls) (all_good ls) g
all_good (token t ∷ ls) after_value g = token_good after_value t (begins_colon ls) (λ n. punctuate n ls) (AllGood ls) (all_good ls) g
all_good (token t ∷ ls) after_comma g = token_good after_comma t (begins_colon ls) (λ n. punctuate n ls) (AllGood ls) (all_good ls) g
all_good (token t ∷ ls) after_key g = token_good after_key t (begins_colon ls) (λ n. punctuate n ls) (AllGood ls) (all_good ls) g
all_good (comma ∷ ls) fresh g = absurd (false≢true g.0)
all_good (comma ∷ ls) after_value g = (refl, all_good ls after_comma g)
all_good (comma ∷ ls) after_comma g = absurd (false≢true g.0)
all_good (comma ∷ ls) after_key g = absurd (false≢true g.0)
all_good (colon ∷ ls) fresh g = absurd (false≢true g.0)
all_good (colon ∷ ls) after_value g = absurd (false≢true g.0)
all_good (colon ∷ ls) after_comma g = absurd (false≢true g.0)
all_good (colon ∷ ls) after_key g = (refl, all_good ls fresh g)

allowed_some : (b : Bool) (t : Token) (k : Place → List Token) (n : Place) → if_allowed b t k n ≡ [] → ⊥
allowed_some true t k n e = absurd (cc)
allowed_some false t k n e = absurd (cc)

token_some : (p : Place) (t : Token) (b : Bool) (k : Place → List Token) → place_token p t b k ≡ [] → ⊥
token_some p begin_object b k e = allowed_some (may_begin p) begin_object k fresh e
token_some p end_object b k e = allowed_some (may_close p) end_object k after_value e
token_some p begin_array b k e = allowed_some (may_begin p) begin_array k fresh e
token_some p end_array b k e = allowed_some (may_close p) end_array k after_value e
token_some p (key s) b k e = absurd (cc)
token_some p (string s) true k e = allowed_some (may_begin p) (key s) k after_key e
token_some p (string s) false k e = allowed_some (may_begin p) (string s) k after_value e
token_some p (number s) b k e = allowed_some (may_begin p) (number s) k after_value e
token_some p (boolean c) b k e = allowed_some (may_begin p) (boolean c) k after_value e
token_some p null b k e = allowed_some (may_begin p) null k after_value e
token_some p bad b k e = absurd (cc)

comma_some : (ls : List Lexeme) → punctuate after_comma ls ≡ [] → ⊥
unfolding punctuate
comma_some [] e = absurd (cc)
comma_some (token t ∷ ls) e = token_some after_comma t (begins_colon ls) (λ n. punctuate n ls) e
comma_some (comma ∷ ls) e = absurd (cc)
comma_some (colon ∷ ls) e = absurd (cc)

behind_comma : (ts : List Token) → (ts ≡ [] → ⊥) → standing after_value ts ≡ after_value → standing after_comma ts ≡ after_value
behind_comma [] some h = absurd (some refl)
behind_comma (t ∷ ts) some h = h

behind_colon : (ts : List Token) → standing after_key ts ≡ after_value → standing fresh ts ≡ after_value
behind_colon [] h = absurd (cc)
behind_colon (t ∷ ts) h = h

allowed_then : (b : Bool) (t : Token) (p : Place) (k l : Place → List Token) (more : List Token) → ((n : Place) → NoBad (k n) → standing n (k n) ≡ after_value → l n ≡ k n ++ more) → NoBad (if_allowed b t k (after_token t))
    → standing p (if_allowed b t k (after_token t)) ≡ after_value → if_allowed b t l (after_token t) ≡ if_allowed b t k (after_token t) ++ more
allowed_then true t p k l more f g h = ap (λ ts. t ∷ ts) (f (after_token t) g.1 h)
allowed_then false t p k l more f g h = absurd (false≢true g.0)

token_then : (p : Place) (t : Token) (b : Bool) (k l : Place → List Token) (more : List Token) → ((n : Place) → NoBad (k n) → standing n (k n) ≡ after_value → l n ≡ k n ++ more) → NoBad (place_token p t b k)
    → standing p (place_token p t b k) ≡ after_value → place_token p t b l ≡ place_token p t b k ++ more
token_then p begin_object b k l more f = allowed_then (may_begin p) begin_object p k l more f
token_then p end_object b k l more f = allowed_then (may_close p) end_object p k l more f
token_then p begin_array b k l more f = allowed_then (may_begin p) begin_array p k l more f
token_then p end_array b k l more f = allowed_then (may_close p) end_array p k l more f
token_then p (key s) b k l more f = λ g h. absurd (false≢true g.0)
token_then p (string s) true k l more f = allowed_then (may_begin p) (key s) p k l more f
token_then p (string s) false k l more f = allowed_then (may_begin p) (string s) p k l more f
token_then p (number s) b k l more f = allowed_then (may_begin p) (number s) p k l more f
token_then p (boolean c) b k l more f = allowed_then (may_begin p) (boolean c) p k l more f
token_then p null b k l more f = allowed_then (may_begin p) null p k l more f
token_then p bad b k l more f = λ g h. absurd (false≢true g.0)

module _ (ms : List Lexeme) (no_colon : begins_colon ms ≡ false) where
  same_colon : (ls : List Lexeme) → begins_colon (ls ++ ms) ≡ begins_colon ls
  same_colon [] = no_colon
  same_colon (token t ∷ ls) = refl
  same_colon (comma ∷ ls) = refl
  same_colon (colon ∷ ls) = refl

  one_token : (p : Place) (t : Token) (ls : List Lexeme) → ((n : Place) → NoBad (punctuate n ls) → standing n (punctuate n ls) ≡ after_value → punctuate n (ls ++ ms) ≡ punctuate n ls ++ punctuate after_value ms)
      → NoBad (place_token p t (begins_colon ls) (λ n. punctuate n ls)) → standing p (place_token p t (begins_colon ls) (λ n. punctuate n ls)) ≡ after_value
      → place_token p t (begins_colon (ls ++ ms)) (λ n. punctuate n (ls ++ ms)) ≡ place_token p t (begins_colon ls) (λ n. punctuate n ls) ++ punctuate after_value ms
  one_token p t ls f g h =
      ap (λ b. place_token p t b (λ n. punctuate n (ls ++ ms))) (same_colon ls) ∙ token_then p t (begins_colon ls) (λ n. punctuate n ls) (λ n. punctuate n (ls ++ ms)) (punctuate after_value ms) f g h

  pub punctuated : (ls : List Lexeme) (p : Place) → NoBad (punctuate p ls) → standing p (punctuate p ls) ≡ after_value → punctuate p (ls ++ ms) ≡ punctuate p ls ++ punctuate after_value ms
  unfolding punctuate
  punctuated [] fresh g h = absurd (cc)
  punctuated [] after_value g h = refl
  punctuated [] after_comma g h = absurd (false≢true g.0)
  punctuated [] after_key g h = absurd (false≢true g.0)
  punctuated (token t ∷ ls) fresh g h = one_token fresh t ls (punctuated ls) g h
  punctuated (token t ∷ ls) after_value g h = one_token after_value t ls (punctuated ls) g h
  punctuated (token t ∷ ls) after_comma g h = one_token after_comma t ls (punctuated ls) g h
  punctuated (token t ∷ ls) after_key g h = one_token after_key t ls (punctuated ls) g h
  punctuated (comma ∷ ls) fresh g h = absurd (false≢true g.0)
  punctuated (comma ∷ ls) after_value g h = punctuated ls after_comma g (behind_comma (punctuate after_comma ls) (comma_some ls) h)
  punctuated (comma ∷ ls) after_comma g h = absurd (false≢true g.0)
  punctuated (comma ∷ ls) after_key g h = absurd (false≢true g.0)
  punctuated (colon ∷ ls) fresh g h = absurd (false≢true g.0)
  punctuated (colon ∷ ls) after_value g h = absurd (false≢true g.0)
  punctuated (colon ∷ ls) after_comma g h = absurd (false≢true g.0)
  punctuated (colon ∷ ls) after_key g h = punctuated ls fresh g (behind_colon (punctuate fresh ls) h)

-- ---- the tokens of a value

pub no_bad_then : (ts us : List Token) → NoBad ts → NoBad us → NoBad (ts ++ us)
no_bad_then [] us g h = h
no_bad_then (t ∷ ts) us g h = (g.0, no_bad_then ts us g.1 h)

mutual
  pub no_bad : (j : Json) → NoBad (json_tokens j)
  no_bad null_value = (refl, tt)
  no_bad (boolean_value b) = (refl, tt)
  no_bad (number_value s) = (refl, tt)
  no_bad (string_value s) = (refl, tt)
  no_bad (array js) = (refl, no_bad_items js)
  no_bad (object ms) = (refl, no_bad_members ms)

  no_bad_items : (js : Items) → NoBad (items_tokens js)
  no_bad_items no_items = (refl, tt)
  no_bad_items (item j js) = no_bad_then (json_tokens j) (items_tokens js) (no_bad j) (no_bad_items js)

  no_bad_members : (ms : Members) → NoBad (members_tokens ms)
  no_bad_members no_members = (refl, tt)
  no_bad_members (member k j ms) = (refl, no_bad_then (json_tokens j) (members_tokens ms) (no_bad j) (no_bad_members ms))

pub standing_then : (p : Place) (ts us : List Token) → standing p (ts ++ us) ≡ standing (standing p ts) us
standing_then p [] us = refl
standing_then p (t ∷ ts) us = standing_then (after_token t) ts us

mutual
  pub ends_standing : (j : Json) (p : Place) → standing p (json_tokens j) ≡ after_value
  ends_standing null_value p = refl
  ends_standing (boolean_value b) p = refl
  ends_standing (number_value s) p = refl
  ends_standing (string_value s) p = refl
  ends_standing (array js) p = items_standing js fresh
  ends_standing (object ms) p = members_standing ms fresh

  items_standing : (js : Items) (p : Place) → standing p (items_tokens js) ≡ after_value
  items_standing no_items p = refl
  items_standing (item j js) p = standing_then p (json_tokens j) (items_tokens js) ∙ ap (λ q. standing q (items_tokens js)) (ends_standing j p) ∙ items_standing js after_value

  members_standing : (ms : Members) (p : Place) → standing p (members_tokens ms) ≡ after_value
  members_standing no_members p = refl
  members_standing (member k j ms) p =
      standing_then after_key (json_tokens j) (members_tokens ms) ∙ ap (λ q. standing q (members_tokens ms)) (ends_standing j after_key) ∙ members_standing ms after_value

-- ---- where a value may begin

abbrev pub opens : List Token → Bool
opens [] = false
opens (begin_object ∷ ts) = true
opens (end_object ∷ ts) = false
opens (begin_array ∷ ts) = true
opens (end_array ∷ ts) = false
opens (key s ∷ ts) = true
opens (string s ∷ ts) = true
opens (number s ∷ ts) = true
opens (boolean b ∷ ts) = true
opens (null ∷ ts) = true
opens (bad ∷ ts) = false

pub value_opens : (j : Json) → opens (json_tokens j) ≡ true
value_opens null_value = refl
value_opens (boolean_value b) = refl
value_opens (number_value s) = refl
value_opens (string_value s) = refl
value_opens (array js) = refl
value_opens (object ms) = refl

same_string : (s : List ℕ) (b : Bool) (k : Place → List Token) → place_token after_comma (string s) b k ≡ place_token fresh (string s) b k
same_string s true k = refl
same_string s false k = refl

from_comma : (ls : List Lexeme) → opens (punctuate fresh ls) ≡ true → punctuate after_comma ls ≡ punctuate fresh ls
unfolding punctuate
from_comma [] h = absurd (false≢true h)
from_comma (token begin_object ∷ ls) h = refl
from_comma (token end_object ∷ ls) h = absurd (false≢true h)
from_comma (token begin_array ∷ ls) h = refl
from_comma (token end_array ∷ ls) h = absurd (false≢true h)
from_comma (token (key s) ∷ ls) h = absurd (false≢true h)
from_comma (token (string s) ∷ ls) h = same_string s (begins_colon ls) (λ n. punctuate n ls)
from_comma (token (number s) ∷ ls) h = refl
from_comma (token (boolean b) ∷ ls) h = refl
from_comma (token null ∷ ls) h = refl
from_comma (token bad ∷ ls) h = absurd (false≢true h)
from_comma (comma ∷ ls) h = absurd (false≢true h)
from_comma (colon ∷ ls) h = absurd (false≢true h)

pub from_place : (ls : List Lexeme) (p : Place) → may_begin p ≡ true → opens (punctuate fresh ls) ≡ true → punctuate p ls ≡ punctuate fresh ls
from_place ls fresh e h = refl
from_place ls after_value e h = absurd (false≢true e)
from_place ls after_comma e h = from_comma ls h
from_place ls after_key e h = absurd (false≢true e)
