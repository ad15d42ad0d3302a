-- One or the other.
use Rattle.std.proofs.Common.{◌≡◌, Bool, true, false, ◌||◌, refl}

pub or_assoc : (a b c : Bool) → ((a || b) || c) ≡ (a || (b || c))
or_assoc true b c = refl
or_assoc false b c = refl

pub or_more : (a b c : Bool) → (b ≡ true → c ≡ true) → (a || b) ≡ true → (a || c) ≡ true
or_more true b c f e = refl
or_more false b c f e = f e

-- what comes of a or b, or else is c
pub or_through : (a b c d : Bool) → (d ≡ true → (a || b) ≡ true) → (d || c) ≡ true → (a || (b || c)) ≡ true
or_through true b c d f e = refl
or_through false true c d f e = refl
or_through false false true d f e = refl
or_through false false false true f e = f refl
or_through false false false false f e = e

-- a row that is seen, where a box that shows makes an earlier row seen
pub or_kept : (any shows taken left total : Bool) → (shows ≡ true → any ≡ true) → (any || (taken || left)) ≡ total
    → ((any || ((shows || taken) || false)) || left) ≡ total
or_kept true shows taken left total f e = e
or_kept false true taken left total f e = absurd (never (f refl))
  where
    never : false ≡ true → ⊥
    never h = cc
or_kept false false true left total f e = e
or_kept false false false left total f e = e

pub or_last : (any seen : Bool) → seen ≡ true → (any || (seen || false)) ≡ true
or_last true seen e = refl
or_last false true e = refl
or_last false false e = e
