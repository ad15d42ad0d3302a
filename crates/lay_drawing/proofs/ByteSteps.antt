-- Bytes that are read: a line that ends, one that is bad, and the bytes of a report one after the other.
use Rattle.std.proofs.Common.{◌≡◌, ℕ, zero, suc, ◌+◌, ◌^◌, ◌<◌, ◌≤◌, ◌==◌, false, List, [], ◌∷◌, ◌++◌, length, take, drop, get_or, refl, sym, ap, subst, ◌∙◌, arith, append_assoc, append-nil, length-append, Option, Some, None, ℤ, pos, negsuc}
use Rattle.std.specs.List.{flat_map, join_with_byte}
use Rattle.std.specs.Fmt.{decimal, signed_decimal}
use Rattle.std.proofs.lemmas.Grind.{flat_map-append}
use Rattle.std.proofs.lemmas.Int.{ints}
use Rattle.std.proofs.lemmas.Fmt.{length-decimal-le}
use Rattle.lay_units.specs.Units.{IsPosition}
use Rattle.lay_frag.specs.declared.frag.FragKind.{FragKind}
use Rattle.lay_frag.specs.declared.frag.FragKind.TheVariants.{Box, Line as LineBox, Text}
use Rattle.lay_frag.specs.Lines.{kind_word}
use Rattle.lay_drawing.specs.declared.line.EditReply.{EditReply}
use Rattle.lay_drawing.specs.declared.line.EditReply.TheVariants.{Accepted, Refused, NoMemory as no_memory}
use Rattle.lay_drawing.specs.declared.line.Line.{Line}
use Rattle.lay_drawing.specs.declared.line.Line.TheVariants.{Edit, Publish, Latest, Sync, Final, Laid, Piece}
use Rattle.lay_drawing.specs.declared.places.Place.{Place}
use Rattle.lay_drawing.specs.declared.state.Reading.{Reading}
use Rattle.lay_drawing.specs.declared.state.Stop.{Stop}
use Rattle.lay_drawing.specs.declared.state.Stop.TheVariants.{BadLine, NoMemory}
use Rattle.lay_drawing.specs.Lines.{line_text, line_body, line_fields, place_fields, reply_fields, shown_field, IsLine, IsPlace, IsReply, IsVersion}
use Rattle.lay_drawing.specs.Reading.{line_in}
use Rattle.lay_drawing.specs.Reports.{place_behind_line, IsBadLine}
use Rattle.lay_drawing.specs.States.{HasRead, Adds, CantAdd, IsNextLineNumber, Reads, Stops}
use Rattle.lay_drawing.proofs.Splitting.{lacks_more, lacks_append, same_front, front_within}
use Rattle.lay_drawing.proofs.LineReading.{line_sound, line_complete, body_lacks}
use Rattle.lay_drawing.proofs.LineSteps.{has_more}

-- a line ends and is added
pub ends_line : (s t u : Reading) (line : Line) → line_in s.text.items ≡ Some line → Adds s line t
    → u.wanted ≡ t.wanted → u.place ≡ t.place → u.count ≡ t.count → u.is_shown ≡ t.is_shown → u.is_open ≡ t.is_open → u.pieces.items ≡ t.pieces.items → u.text.items ≡ [] → Reads s (10 ∷ []) u
ends_line s t u line is adds wanted place count shown opened pieces empty =
    let sound = line_sound s.text.items line is in
    record {
      wanted_is = wanted ∙ adds.wanted_is;
      reads = λ before has.
          let more = has_more s t has.lines line has.has_lines sound.1 adds in
          let text : flat_map line_text (has.lines ++ line ∷ []) ≡ flat_map line_text has.lines ++ (line_text line ++ []) = flat_map-append line_text has.lines (line ∷ []) in
          record {
            lines = has.lines ++ line ∷ [];
            bytes_are = rw (has.bytes_are, empty, text, sound.0) (simp (append_assoc, append-nil));
            no_end = rw empty refl;
            has_lines = record {
              all = more.all;
              place_is = more.place_is ∙ ap Some (sym place);
              count_is = more.count_is ∙ sym count;
              shown_is = (let a = more.shown_is ∙ sym shown in rw wanted a);
              open_is = (let a = more.open_is ∙ sym opened in rw wanted a);
              pieces_are = (let a = more.pieces_are ∙ sym pieces in rw wanted a);
            };
          };
    }

-- a line ends and isn't added
pub ends_badly : (s : Reading) (stop : Stop) → ((l : Line) (next : Place) → line_in s.text.items ≡ Some l → place_behind_line l s.place ≡ Some next → ⊥) → IsNextLineNumber s.count stop → Stops s (10 ∷ []) stop
ends_badly s NoMemory never next = tt
ends_badly s (BadLine number) never next = λ before more has. record {
  lines = has.lines;
  place = s.place;
  rest = s.text.items ++ 10 ∷ more;
  are_lines = record { bytes_are = rw has.bytes_are (simp append_assoc); all = has.has_lines.all; place_is = has.has_lines.place_is };
  no_line = record {
    none = λ l n m fits may e.
        let same = same_front 10 s.text.items (line_body l) more m has.no_end (body_lacks l fits) (e ∙ append_assoc (line_body l) (10 ∷ []) m) in
        never l n (ap line_in same.0 ∙ line_complete l fits) may;
    missing = λ e. absurd (omega (arith, ap length e, length-append s.text.items (10 ∷ more)));
  };
  number_is = next ∙ ap (λ (n : ℕ). n + 1) (sym has.has_lines.count_is);
}

pub never_read : (s : Reading) → line_in s.text.items ≡ None → (l : Line) (next : Place) → line_in s.text.items ≡ Some l → place_behind_line l s.place ≡ Some next → ⊥
never_read s none l next is may = cc

pub never_stands : (s : Reading) (line : Line) → line_in s.text.items ≡ Some line → place_behind_line line s.place ≡ None → (l : Line) (next : Place) → line_in s.text.items ≡ Some l → place_behind_line l s.place ≡ Some next → ⊥
never_stands s line is none l next read may = let same : l ≡ line = cc in let q : place_behind_line line s.place ≡ Some next = rw (← same) may in cc

pub cant_add : (s : Reading) (line : Line) (stop : Stop) → line_in s.text.items ≡ Some line → CantAdd s line stop → Stops s (10 ∷ []) stop
cant_add s line NoMemory is cant = tt
cant_add s line (BadLine number) is cant = ends_badly s (BadLine number) (never_stands s line is cant.0) cant.1

-- lines are short

total : List (List ℕ) → ℕ
total [] = 0
total (x ∷ xs) = length x + 1 + total xs

joined_short : (fields : List (List ℕ)) → length (join_with_byte 32 fields) ≤ total fields
unfolding total
joined_short [] = omega arith
joined_short (x ∷ []) = omega arith
joined_short (x ∷ y ∷ more) = omega (arith, length-append x (32 ∷ join_with_byte 32 (y ∷ more)), joined_short (y ∷ more))

short : (n : ℕ) → n < 2 ^ 64 → length (decimal n) ≤ 20
short n small = length-decimal-le 20 n (omega arith) (omega arith) small

signed_short : (z : ℤ) → IsPosition z → length (signed_decimal z) ≤ 21
signed_short (pos n) is = omega (arith, short n (omega (arith, ints, is.1)))
signed_short (negsuc n) is = omega (arith, short (suc n) (omega (arith, ints, is.0)))

kind_short : (kind : FragKind) → length (kind_word kind) ≤ 4
kind_short Box = omega arith
kind_short LineBox = omega arith
kind_short Text = omega arith

shown_short : (o : Option ℕ) → IsVersion o → length (shown_field o) ≤ 20
shown_short (Some v) is = short v is
shown_short None is = omega arith

place_short : (o : Option ℕ) → IsPlace o → total (place_fields o) ≤ 24
unfolding total
place_short (Some n) is = omega (arith, short n is)
place_short None is = omega arith

reply_short : (r : EditReply) → IsReply r → total (reply_fields r) ≤ 60
unfolding total
reply_short (Accepted v) is = omega (arith, short v is)
reply_short (Refused k place) is = omega (arith, short k (omega (arith, is.1)), place_short place is.2)
reply_short no_memory is = omega arith

fields_short : (l : Line) → IsLine l → total (line_fields l) ≤ 200
unfolding total
fields_short (Edit e i r) is = omega (arith, short e (omega (arith, is.0)), short i (omega (arith, is.1)), reply_short r is.2)
fields_short (Publish v) is = omega (arith, short v is)
fields_short (Latest e i s) is = omega (arith, short e (omega (arith, is.0)), short i (omega (arith, is.1)), shown_short s is.2)
fields_short (Sync e i s) is = omega (arith, short e (omega (arith, is.0)), short i (omega (arith, is.1)), shown_short s is.2)
fields_short (Final v) is = omega (arith, short v is)
fields_short (Laid v) is = omega (arith, short v is)
fields_short (Piece f) is =
    omega (
      arith,
      kind_short f.kind,
      short f.node.0 (omega (arith, is.0)),
      short f.part (omega (arith, is.1)),
      signed_short f.rect.x.0 is.2.x,
      signed_short f.rect.y.0 is.2.y,
      signed_short f.rect.w.0 is.2.w,
      signed_short f.rect.h.0 is.2.h,
    )

-- a line that is too long
pub stops_long : (s : Reading) (byte : ℕ) (stop : Stop) → (byte == 10) ≡ false → length s.text.items ≡ 200 → IsNextLineNumber s.count stop → Stops s (byte ∷ []) stop
stops_long s byte NoMemory other long next = tt
stops_long s byte (BadLine number) other long next = λ before more has. record {
  lines = has.lines;
  place = s.place;
  rest = s.text.items ++ byte ∷ more;
  are_lines = record { bytes_are = rw has.bytes_are (simp append_assoc); all = has.has_lines.all; place_is = has.has_lines.place_is };
  no_line = record {
    none = λ l n m fits may e.
        let lacks = lacks_append 10 s.text.items (byte ∷ []) has.no_end (lacks_more 10 byte [] other refl) in
        let within = front_within 10 (s.text.items ++ byte ∷ []) (line_body l) more m lacks (append_assoc s.text.items (byte ∷ []) more ∙ e ∙ append_assoc (line_body l) (10 ∷ []) m) in
        omega (arith, within, length-append s.text.items (byte ∷ []), joined_short (line_fields l), fields_short l fits);
    missing = λ e. absurd (omega (arith, ap length e, length-append s.text.items (byte ∷ more)));
  };
  number_is = next ∙ ap (λ (n : ℕ). n + 1) (sym has.has_lines.count_is);
}

-- one byte more of a line
pub reads_byte : (s t : Reading) (byte : ℕ) → (byte == 10) ≡ false → t.wanted ≡ s.wanted → t.place ≡ s.place → t.count ≡ s.count → t.is_shown ≡ s.is_shown → t.is_open ≡ s.is_open → t.pieces.items ≡ s.pieces.items
    → t.text.items ≡ s.text.items ++ byte ∷ [] → Reads s (byte ∷ []) t
reads_byte s t byte other wanted place count shown opened pieces text = record {
  wanted_is = wanted;
  reads = λ before has. record {
    lines = has.lines;
    bytes_are = rw (has.bytes_are, text) (append_assoc (flat_map line_text has.lines) s.text.items (byte ∷ []));
    no_end = rw text (lacks_append 10 s.text.items (byte ∷ []) has.no_end (lacks_more 10 byte [] other refl));
    has_lines = record {
      all = has.has_lines.all;
      place_is = has.has_lines.place_is ∙ ap Some (sym place);
      count_is = has.has_lines.count_is ∙ sym count;
      shown_is = (let a = has.has_lines.shown_is ∙ sym shown in rw wanted a);
      open_is = (let a = has.has_lines.open_is ∙ sym opened in rw wanted a);
      pieces_are = (let a = has.has_lines.pieces_are ∙ sym pieces in rw wanted a);
    };
  };
}

-- bytes one after the other

pub reads_none : (s : Reading) → Reads s [] s
reads_none s = record { wanted_is = refl; reads = λ before has. rw (append-nil before) has }

take_more : (xs : List ℕ) (i x : ℕ) → i < length xs → x ≡ get_or xs i 0 → take (i + 1) xs ≡ take i xs ++ x ∷ []
take_more [] i x within is = absurd (omega arith)
take_more (y ∷ ys) zero x within is = let e : y ≡ x = sym is in ap (λ (z : ℕ). z ∷ []) e
take_more (y ∷ ys) (suc i) x within is = let e : suc i + 1 ≡ suc (i + 1) = omega arith in rw e (ap (λ (zs : List ℕ). y ∷ zs) (take_more ys i x (omega arith) is))

parts : (xs : List ℕ) (i x : ℕ) → i < length xs → x ≡ get_or xs i 0 → xs ≡ take i xs ++ x ∷ drop (i + 1) xs
parts [] i x within is = absurd (omega arith)
parts (y ∷ ys) zero x within is = let e : y ≡ x = sym is in ap (λ (z : ℕ). z ∷ ys) e
parts (y ∷ ys) (suc i) x within is = let e : suc i + 1 ≡ suc (i + 1) = omega arith in rw e (ap (λ (zs : List ℕ). y ∷ zs) (parts ys i x (omega arith) is))

pub reads_more : (s t u : Reading) (bytes : List ℕ) (i x : ℕ) → i < length bytes → x ≡ get_or bytes i 0 → Reads s (take i bytes) t → Reads t (x ∷ []) u → Reads s (take (i + 1) bytes) u
reads_more s t u bytes i x within is first next = record {
  wanted_is = next.wanted_is ∙ first.wanted_is;
  reads = λ before has.
      let e : (before ++ take i bytes) ++ x ∷ [] ≡ before ++ take (i + 1) bytes = append_assoc before (take i bytes) (x ∷ []) ∙ ap (λ (ys : List ℕ). before ++ ys) (sym (take_more bytes i x within is)) in
      subst (HasRead u) e (next.reads (before ++ take i bytes) (first.reads before has));
}

pub stops_more : (s t : Reading) (stop : Stop) (bytes : List ℕ) (i x : ℕ) → i < length bytes → x ≡ get_or bytes i 0 → Reads s (take i bytes) t → Stops t (x ∷ []) stop → Stops s bytes stop
stops_more s t NoMemory bytes i x within is first stops = tt
stops_more s t (BadLine number) bytes i x within is first stops = λ before more has.
    let bad = stops (before ++ take i bytes) (drop (i + 1) bytes ++ more) (first.reads before has) in
    let whole : before ++ (take i bytes ++ x ∷ drop (i + 1) bytes) ++ more ≡ before ++ bytes ++ more = ap (λ (ys : List ℕ). before ++ ys ++ more) (sym (parts bytes i x within is)) in
    let e : ((before ++ take i bytes) ++ x ∷ []) ++ (drop (i + 1) bytes ++ more) ≡ before ++ (take i bytes ++ x ∷ drop (i + 1) bytes) ++ more = simp append_assoc in
    subst (λ (ys : List ℕ). IsBadLine ys number) (e ∙ whole) bad
