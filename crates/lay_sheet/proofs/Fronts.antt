-- Lists that are found from their front on.
use Rattle.std.proofs.Common.{◌≡◌, refl, ap, sym, List, [], ◌∷◌, ◌++◌, Option, Some, None}
use Rattle.std.proofs.lemmas.List.{append_assoc}
use Rattle.lay_sheet.specs.Lists.{with_found, preceded, continued}

-- one more element behind those that are done is the first of those that are left
pub one_more : {A : Type 0} (done : List A) (x : A) (found : Option (List A)) → continued done (preceded x found) ≡ continued (done ++ x ∷ []) found
one_more done x None = refl
one_more done x (Some others) = ap Some (sym (append_assoc done (x ∷ []) others))

pub found_more : {A : Type 0} (done : List A) (found : Option A) (others : List A) → done ++ with_found found others ≡ (done ++ with_found found []) ++ others
found_more done None others = sym (append_assoc done [] others)
found_more done (Some x) others = sym (append_assoc done (x ∷ []) others)
