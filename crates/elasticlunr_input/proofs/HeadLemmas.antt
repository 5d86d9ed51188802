-- On the head of an input, and on lines that are refused.
use Rattle.std.proofs.Common.{◌≡◌, ◌==◌, ◌+◌, ◌-◌, ◌⊎◌, ◌∷◌, ◌++◌, ℕ, List, [], length, take, map, Bool, true, false}
use Rattle.std.proofs.Common.{cond, count_by, if◌then◌else◌, Option, None, Some, IfSome, option_map, unwrap_or}
use Rattle.std.proofs.Common.{slice_get, Result, Ok, Err, IfErr, IsErrAnd, inl, inr, refl, sym, ap, subst, ◌∙◌}
use Rattle.std.proofs.Common.{append_assoc, append-nil, length-append, arith}
use Rattle.std.specs.Io.KnownBytes.{Consumes}
use Rattle.std.specs.List.{filter, find}
use Rattle.std.proofs.lemmas.List.{length-map, map-append}
use Rattle.serde_json.specs.Data.{Data}
use Rattle.elasticlunr_text.specs.Text.{Bytes}
use Rattle.elasticlunr_job_format.specs.Job.{Document}
use Rattle.elasticlunr_job_format.specs.LineRead.{AreAll, AreWhole, EndsLine, HasNoFeed, IsLineAfter, fed}
use Rattle.elasticlunr_job_format.specs.Lines.{filled_lines, is_blank, is_filled, lines_of, readings, AreLineValues}
use Rattle.elasticlunr_job_format.specs.Objects as objects
use Rattle.elasticlunr_job_format.specs.Objects.{AreDocumentsOf, HasProblem, IsDocumentOf, IsFirstProblem}
use Rattle.elasticlunr_job_format.specs.Reading.{reading}
use Rattle.elasticlunr_job_format.specs.declared.objects.ObjectFault.{ObjectFault}
use Rattle.std.specs.Fmt.{option_append}
use Rattle.elasticlunr_job.specs.Answer.{FailsAt, OfIndex}
use Rattle.elasticlunr_documents.specs.Lines.{FailsLines, HasLineProblem, IsFirstNoDocument, IsMadeOfLines, StopsAtLine}
use Rattle.elasticlunr_documents.specs.Lines.{HasTooManyLines}
use Rattle.elasticlunr_documents.specs.Objects.{job_of}
use Rattle.elasticlunr_documents.specs.declared.objects.ObjectsError.TheVariants as error
use Rattle.elasticlunr_job_format.specs.declared.outcome.Refusal.{Refusal}
use Rattle.elasticlunr_documents.specs.declared.lines.LastLine.{LastLine}
use Rattle.elasticlunr_documents.specs.declared.lines.LinesError.{LinesError}
use Rattle.elasticlunr_documents.specs.declared.lines.LinesError.TheVariants as lines_error
use Rattle.elasticlunr_job_format.proofs.WholeLines.{filled_append, filled_front}
use Rattle.elasticlunr_documents.proofs.FilledLines.{blank_first, filled_first}
use Rattle.elasticlunr_documents.proofs.ReadLines.{one_fed, one_last}
use Rattle.elasticlunr_json_place.specs.Members.{Move, IsPlaceOf}
use Rattle.elasticlunr_json_place.specs.Places.{IsPlaceIn, is_line_feed, place_at}
use Rattle.elasticlunr_json_place.specs.Whole.{below}
use Rattle.elasticlunr_json_place.specs.declared.place.Place.{Place}
use Rattle.elasticlunr_json_place.proofs.LineValues.{place_behind}
use Rattle.elasticlunr_json_place.proofs.WholeLines.{place_below}
use Rattle.elasticlunr_input.specs.Asked.{options_of}
use Rattle.elasticlunr_input.specs.FaultPlaces.{object_fault_path}
use Rattle.elasticlunr_diagnostics.specs.Forms.{asked_or_told, line_form, told_form}
use Rattle.elasticlunr_input.specs.Lines.{IsLinesMadeWith}
use Rattle.elasticlunr_input.specs.Inputs.{AreRefusedLines, HasHead, IsBelow, IsHeadOf, IsPlaceInLine, IsRefusedFirst}
use Rattle.elasticlunr_input.specs.Refused.{FailObjects, HasUnreadLine}
use Rattle.elasticlunr_diagnostics.specs.Messages.{IsMemoryOr}
use Rattle.elasticlunr_diagnostics.specs.Messages.{IfPlaced}
use Rattle.elasticlunr_input.specs.RefusedPlaces.{IsLinesPlace}
use Rattle.elasticlunr_input.specs.RefusedRead.{AreRefusedFrom, BeginsWith}
use Rattle.elasticlunr_input.specs.Settled.{Settings}
use Rattle.elasticlunr_diagnostics.specs.declared.form.Form.{Form}
use Rattle.elasticlunr_diagnostics.specs.declared.form.Form.TheVariants.{Job}
use Rattle.elasticlunr_diagnostics.specs.declared.message.Message.{Message}
use Rattle.elasticlunr_diagnostics.specs.declared.message.InputError.{InputError}
use Rattle.elasticlunr_diagnostics.specs.declared.message.InputError.TheVariants.{Refused, Memory, Device}
use Rattle.elasticlunr_diagnostics.specs.declared.message.InputError.TheVariants.{TooManyLines}
use Rattle.elasticlunr_input.proofs.LinesBy.{FailLinesOf, IsPlaceInLines}
use Rattle.elasticlunr_input.proofs.LineLemmas.{fail_with, fails_also, first_among, made_with, object_fault_among}
use Rattle.elasticlunr_input.proofs.LinePlaces.{place_with, placed_for}

-- lines after others, up to the end of a line
pub lines_front : (read rest : Bytes) → AreWhole read ⊎ EndsLine rest → (more : List Bytes)
    × (filled_lines (read ++ rest) ≡ filled_lines read ++ more)
lines_front read rest ends = elim ends [
  | inl whole ↦ (filled_lines rest, filled_append read rest whole)
  | inr ended ↦ elim ended [
    | inl none ↦ (
      [],
      ap (λ r. filled_lines (read ++ r)) none
          ∙ (ap filled_lines (append-nil read) ∙ sym (append-nil (filled_lines read))),
    )
    | inr f ↦ (filled_lines f.0, ap (λ r. filled_lines (read ++ r)) f.1 ∙ filled_front read f.0)
  ]
]

-- the first that is not blank is the first of those that are not
find_first : {X : Type 0} (p : X → Bool) (xs : List X) (y : X) (ys : List X) → filter p xs ≡ y ∷ ys → find p xs ≡ Some y
find_first p [] y ys is = absurd (cc)
find_first p (x ∷ xs) y ys is = at (p x) refl is (λ same. find_first p xs y ys same) where
  at : (b : Bool) → p x ≡ b → cond b (x ∷ filter p xs) (filter p xs) ≡ y ∷ ys
      → (filter p xs ≡ y ∷ ys → find p xs ≡ Some y) → find p (x ∷ xs) ≡ Some y
  at true is_so same more = let first : x ≡ y = cc in ap (λ b. cond b (Some x) (find p xs)) is_so ∙ ap Some first
  at false is_not same more = ap (λ b. cond b (Some x) (find p xs)) is_not ∙ more same

not_blank : (b : Bool) → (if b then false else true) ≡ true → b ≡ false
not_blank true is = absurd (cc)
not_blank false is = refl

module _ (head rest line : Bytes) (feeds : ℕ) (is : IsHeadOf head rest line feeds) where
  whole_head : is_filled line ≡ true → head ≡ is.before ++ fed line → AreWhole head
  whole_head filled ends = inr (is.before ++ line, ends ∙ sym (append_assoc is.before line (10 ∷ [])))

  -- its lines
  pub head_lines : filled_lines head ≡ filter is_filled (line ∷ [])
  head_lines = elim is.ends [
    | inl f ↦ ap filled_lines f.0 ∙ (filled_append is.before (fed line) is.whole
        ∙ (ap (λ ls. ls ++ filled_lines (fed line)) is.blank ∙ one_fed line is.no_feed))
    | inr f ↦ ap filled_lines f.0 ∙ (filled_append is.before line is.whole
        ∙ (ap (λ ls. ls ++ filled_lines line) is.blank ∙ one_last line is.no_feed))
  ]

  -- up to the end of a line
  pub head_ends : AreWhole head ⊎ EndsLine rest
  unfolding whole_head
  head_ends = elim is.ends [ inl f ↦ inl (whole_head f.1 f.0) | inr f ↦ inr (inl f.1) ]

  -- the form that it tells is that of the text
  pub told_head : (asked : Option Form) → asked_or_told asked (head ++ rest) ≡ asked_or_told asked head
  unfolding head_lines head_ends
  told_head (Some form) = refl
  told_head None = elim is.ends [
    | inl f ↦
        let here : filled_lines head ≡ line ∷ [] = head_lines ∙ filled_first line [] (not_blank (is_blank line) f.1) in
        let all = lines_front head rest head_ends in
        let there : filled_lines (head ++ rest) ≡ line ∷ all.0 = all.1 ∙ ap (λ ls. ls ++ all.0) here in
        let form_of : Option Bytes → Form = λ o. unwrap_or (option_map line_form o) Job in
        ap form_of (find_first is_filled (lines_of (head ++ rest)) line all.0 there
        ∙ sym (find_first is_filled (lines_of head) line [] here))
    | inr f ↦ ap (λ r. told_form (head ++ r)) f.1 ∙ ap told_form (append-nil head)
  ]

  -- the values of the first line are the first of the text
  pub first_begins : (items : List Data) → map Some items ≡ map reading (filter is_filled (line ∷ [])) → map Some items
      ≡ take 1 (readings (head ++ rest))
  unfolding head_lines head_ends
  first_begins items are = elim is.ends [
    | inl f ↦
        let one : filter is_filled (line ∷ []) ≡ line ∷ [] = filled_first line [] (not_blank (is_blank line) f.1) in
        let all = lines_front head rest head_ends in
        let there : filled_lines (head ++ rest) ≡ line ∷ all.0 = all.1 ∙ ap (λ ls. ls ++ all.0) (head_lines ∙ one) in
        are ∙ (ap (map reading) one ∙ sym (ap (λ ls. take 1 (map reading ls)) there))
    | inr f ↦ are ∙ (few (is_filled line) ∙ sym (ap (λ r. take 1 (readings (head ++ r))) f.1
        ∙ (ap (λ t. take 1 (readings t)) (append-nil head) ∙ ap (λ ls. take 1 (map reading ls)) head_lines)))
  ] where
    few : (b : Bool) → map reading (cond b (line ∷ []) []) ≡ take 1 (map reading (cond b (line ∷ []) []))
    few true = refl
    few false = refl

  pub first_of_head : (items : List Data) → map Some items ≡ map reading (filter is_filled (line ∷ []))
      → AreLineValues head items
  unfolding head_lines
  first_of_head items are = are ∙ sym (ap (map reading) head_lines)

  -- the line is one of the text
  pub head_line : is_filled line ≡ true → IsLineAfter (Some (head ++ rest)) is.before line feeds
  head_line filled = record {
    begins = elim is.ends [
      | inl f ↦ (
        10 ∷ rest,
        inr (rest, refl),
        ap (λ h. h ++ rest) f.0
            ∙ (append_assoc is.before (fed line) rest ∙ ap (λ bs. is.before ++ bs) (append_assoc line (10 ∷ []) rest)),
      )
      | inr f ↦ (rest, inl f.1, ap (λ h. h ++ rest) f.0 ∙ append_assoc is.before line rest)
    ];
    whole = is.whole;
    feeds_are = is.feeds_are;
    no_feed = is.no_feed;
    filled = filled;
  }

-- a line and those before it
module _ (text before line : Bytes) (feeds : ℕ) (after : IsLineAfter (Some text) before line feeds) where
  pub line_begins : BeginsWith text (before ++ line)
  line_begins = (after.begins.0, inr after.begins.1, after.begins.2 ∙ sym (append_assoc before line after.begins.0))

  line_last : filled_lines (before ++ line) ≡ filled_lines before ++ line ∷ []
  line_last = filled_append before line after.whole ∙ ap (λ ls. filled_lines before ++ ls) (one_last line after.no_feed
      ∙ filled_first line (lines_of []) (not_blank (is_blank line) after.filled))

  pub line_readings : readings (before ++ line) ≡ readings before ++ reading line ∷ []
  unfolding line_last
  line_readings = ap (map reading) line_last ∙ map-append reading (filled_lines before) (line ∷ [])

  -- the first value stays the first
  pub first_same : take 1 (readings text) ≡ take 1 (readings (before ++ line))
  unfolding line_begins line_readings
  first_same =
      let all = lines_front (before ++ line) line_begins.0 line_begins.1 in
      let there : readings text ≡ readings (before ++ line) ++ map reading all.0 = ap readings line_begins.2
      ∙ (ap (map reading) all.1 ∙ map-append reading (filled_lines (before ++ line)) all.0) in
      ap (take 1) there ∙ (ap (λ os. take 1 (os ++ map reading all.0)) line_readings
      ∙ (some (readings before) ∙ sym (ap (take 1) line_readings))) where
        some : (os : List (Option Data)) → take 1
            ((os ++ reading line ∷ []) ++ map reading (lines_front (before ++ line) line_begins.0 line_begins.1).0)
            ≡ take 1 (os ++ reading line ∷ [])
        some [] = refl
        some (o ∷ os) = refl

  -- a place in the line is one so many lines below
  pub in_below : (place : Place) → IsBelow feeds (IsPlaceIn line) place → IsPlaceIn (before ++ line) place
  in_below place is =
      let at = is.2 in
      let offset = at.0 in (
        length before + offset,
        omega (arith, at.1, length-append before line),
        is.1
            ∙ (ap (below feeds) at.2 ∙ (ap (λ n. below n (place_at line offset)) after.feeds_are
            ∙ sym (place_below before line offset after.whole))),
      )

  pub of_below : (path : List Move) (number : ℕ) (place : Place) → number ≡ length (filled_lines before) + 1
      → IsBelow feeds (IsPlaceOf None path line) place → IsPlaceOf (Some (number - 1)) path (before ++ line) place
  of_below path number place its is =
      let at = is.0 in
      let same : length (filled_lines before) ≡ number - 1 = omega (arith, its) in
      let there : IsPlaceOf (Some (length (filled_lines before))) path (before ++ (line ++ []))
      (below (count_by is_line_feed before) at) = place_behind before line [] after.whole after.no_feed
      after.filled (inl refl) path at is.2 in
      subst (λ p. IsPlaceOf (Some (number - 1)) path (before ++ line) p)
      (sym (is.1 ∙ ap (λ n. below n at) after.feeds_are))
      (subst (λ t. IsPlaceOf (Some (number - 1)) path t (below (count_by is_line_feed before) at))
      (ap (λ l. before ++ l) (append-nil line))
      (subst (λ n. IsPlaceOf (Some n) path (before ++ (line ++ [])) (below (count_by is_line_feed before) at)) same
      there))

  unread : (options_for : List Data → objects.Options) (items : List Data) (docs : List Document)
      → AreLineValues before items → AreDocumentsOf (options_for items) items docs → reading line ≡ None
      → HasUnreadLine options_for (before ++ line)
  unfolding line_readings
  unread options_for items docs are documents none = (
    items,
    docs,
    [],
    documents,
    ap (λ os. os ++ None ∷ []) are
        ∙ (ap (λ o. readings before ++ o ∷ []) (sym none) ∙ sym line_readings),
  )

  -- it is not JSON
  pub refused_unread : (settings : Settings) → filled_lines before ≡ [] → reading line ≡ None → (message : Message)
      → IfSome message.place (IsBelow feeds (IsPlaceIn line)) → AreRefusedFrom settings text (Refused message)
  unfolding line_begins unread in_below
  refused_unread settings blank none message placed =
      let is = unread (options_of settings) [] [] (sym (ap (map reading) blank)) tt none in (
        before ++ line,
        line_begins,
        inl is,
        placed_for (IsBelow feeds (IsPlaceIn line))
            (IsLinesPlace settings (before ++ line)) (Refused message) (λ place at. inl (is, in_below place at)) placed,
      )

  -- it is no document
  module _ (settings : Settings) (options : objects.Options) (first : List Data) (begins : map Some first
      ≡ take 1 (readings text)) (told : options ≡ options_of settings first) (number : ℕ) (problem : ObjectFault)
      (no : IsFirstNoDocument options before line number problem) where
    values : (d : Data) → reading line ≡ Some d → AreLineValues (before ++ line) (no.items ++ d ∷ [])
    unfolding line_readings
    values d is = map-append Some no.items (d ∷ [])
        ∙ (ap (λ os. os ++ Some d ∷ []) no.are_values
        ∙ (ap (λ o. readings before ++ o ∷ []) (sym is) ∙ sym line_readings))

    fails_of : (o : Option Data) → reading line ≡ o → HasLineProblem options o problem
        → FailLinesOf options (before ++ line)
    unfolding unread values
    fails_of None is has = inl (unread (λ _. options) no.items no.documents no.are_values no.are_documents is)
    fails_of (Some d) is has = inr (
      no.items ++ d ∷ [],
      values d is,
      object_fault_among options no.items (no.items ++ d
          ∷ []) no.documents d [] problem (sym (map-append Some no.items (d ∷ []))) no.are_documents has,
    )

    place_in : (place : Place) → IsBelow feeds (IsPlaceInLine options line problem) place
        → IsPlaceInLines (before ++ line) options place
    unfolding unread values in_below of_below
    place_in place is = elim is.2 [
      | inl f ↦ inl (
        unread (λ _. options) no.items no.documents no.are_values no.are_documents f.0,
        in_below place (is.0, is.1, f.1),
      )
      | inr f ↦
          let has : HasProblem options f.0 problem = subst (λ o. HasLineProblem options o problem) f.1 no.has in
          let its : number ≡ length (filled_lines before) + 1 = no.number_is
          ∙ ap (λ n. n + 1) (sym (length-map no.items Some)
          ∙ (ap length no.are_values ∙ length-map (filled_lines before) reading)) in
          inr (
            no.items ++ f.0 ∷ [],
            values f.0 f.1,
            (
              number,
              problem,
              subst (λ n. IsFirstProblem options (no.items ++ f.0 ∷ []) n problem) (sym no.number_is)
                  (first_among options no.items (no.items ++ f.0 ∷ []) no.documents f.0 [] problem
                  (sym (map-append Some no.items (f.0 ∷ []))) no.are_documents has),
              of_below (object_fault_path options problem) number place its (is.0, is.1, f.2),
            ),
          )
    ]

    pub refused_line : (message : Message)
        → IfSome message.place (IsBelow feeds (IsPlaceInLine options line problem))
        → AreRefusedFrom settings text (Refused message)
    unfolding fails_of place_in line_begins first_same
    refused_line message placed =
        let read = before ++ line in (
          read,
          line_begins,
          fail_with settings read options first (begins ∙ first_same) told (fails_of (reading line) refl no.has),
          placed_for (IsBelow feeds (IsPlaceInLine options line problem)) (IsLinesPlace settings read) (Refused message)
              (λ place is. place_with settings read options first (begins ∙ first_same) told place (place_in place is))
              placed,
        )

-- nothing is after what is all
none_behind : (line rest : Bytes) → line ≡ line ++ rest → rest ≡ []
none_behind line [] same = refl
none_behind line (b ∷ rest) same = absurd (omega (arith, ap length same, length-append line (b ∷ rest)))

module _ (left mid now : Option Bytes) (before line head : Bytes) (last : LastLine) (first : Consumes left mid before)
    (whole : AreWhole before) (blank : filled_lines before ≡ []) (feeds_are : last.before
    ≡ count_by (λ b. b == 10) before) (same_line : last.text.items ≡ line) (no_feed : HasNoFeed line) where
  -- the head is the whole text
  pub head_last : Consumes mid now line → AreAll mid line → head ≡ before ++ line → HasHead left now head last
  head_last next all same = at left mid now first next all where
    at : (a b c : Option Bytes) → Consumes a b before → Consumes b c line → AreAll b line → HasHead a c head last
    at None b c f n l = tt
    at (Some text) None c f n l = absurd f
    at (Some text) (Some m) None f n l = absurd n
    at (Some text) (Some m) (Some rest) f n l = (
      f ∙ (ap (λ bs. before ++ bs) n ∙ (sym (append_assoc before line rest) ∙ ap (λ h. h ++ rest) (sym same))),
      record {
        before = before;
        whole = whole;
        blank = blank;
        feeds_are = feeds_are;
        no_feed = subst HasNoFeed
            (sym same_line) no_feed;
        ends = inr (
          same ∙ ap (λ l. before ++ l) (sym same_line),
          none_behind line rest
              (sym l ∙ n),
        );
      },
    )

  -- it ends with a line that is not blank
  pub head_filled : Consumes mid now (fed line) → is_filled line ≡ true → head ≡ before ++ fed line
      → HasHead left now head last
  head_filled next filled same = at left mid now first next where
    at : (a b c : Option Bytes) → Consumes a b before → Consumes b c (fed line) → HasHead a c head last
    at None b c f n = tt
    at (Some text) None c f n = absurd f
    at (Some text) (Some m) None f n = absurd n
    at (Some text) (Some m) (Some rest) f n = (
      f ∙ (ap (λ bs. before ++ bs) n ∙ (sym (append_assoc before (fed line) rest) ∙ ap (λ h. h ++ rest) (sym same))),
      record {
        before = before;
        whole = whole;
        blank = blank;
        feeds_are = feeds_are;
        no_feed = subst HasNoFeed
            (sym same_line) no_feed;
        ends = inl (
          same ∙ ap (λ l. before ++ fed l) (sym same_line),
          ap is_filled same_line ∙ filled,
        );
      },
    )

-- one blank line more
pub blank_next : (before line : Bytes) → AreWhole before → filled_lines before ≡ [] → HasNoFeed line → is_blank line
    ≡ true → filled_lines (before ++ fed line) ≡ []
blank_next before line whole blank no_feed is = filled_append before (fed line) whole
    ∙ (ap (λ ls. ls ++ filled_lines (fed line)) blank ∙ (one_fed line no_feed ∙ blank_first line (lines_of []) is))

-- the first of the values
pub first_item : {X : Type 0} (xs : List X) (x : X) → Some x ≡ slice_get xs 0 → (rest : List X) × (xs ≡ x ∷ rest)
first_item [] x is = absurd (cc)
first_item (y ∷ xs) x is = let same : y ≡ x = cc in (xs, ap (λ z. z ∷ xs) same)

-- the documents of at most one value
pub one_document : (options : objects.Options) (line : Bytes) (items : List Data) → map Some items
    ≡ map reading (filter is_filled (line ∷ []))
    → ((d : Data) (rest : List Data) → items ≡ d ∷ rest → (doc : Document) × IsDocumentOf options d doc)
    → (docs : List Document) × AreDocumentsOf options items docs
one_document options line [] are each = ([], tt)
one_document options line (d ∷ []) are each = let doc = each d [] refl in (doc.0 ∷ [], (doc.1, tt))
one_document options line (d ∷ e ∷ items) are each = absurd (at (is_filled line) are) where
  at : (b : Bool) → map Some (d ∷ e ∷ items) ≡ map reading (cond b (line ∷ []) []) → ⊥
  at true same = let long : length (map Some (d ∷ e ∷ items)) ≡ 1 = ap length same in omega (arith, long)
  at false same = let long : length (map Some (d ∷ e ∷ items)) ≡ 0 = ap length same in omega (arith, long)

-- the line of the first value
one_read : (line : Bytes) (d : Data) (rest : List Data) → map Some (d ∷ rest)
    ≡ map reading (filter is_filled (line ∷ [])) → (is_filled line ≡ true) × (reading line ≡ Some d)
one_read line d rest are = at (is_filled line) refl are where
  at : (b : Bool) → is_filled line ≡ b → map Some (d ∷ rest) ≡ map reading (cond b (line ∷ []) [])
      → (is_filled line ≡ true) × (reading line ≡ Some d)
  at true is same = (is, (let heads : Some d ≡ reading line = cc in sym heads))
  at false is same = absurd (cc)

-- what is said of a text whose bytes are known
pub chained_made : (head : Bytes) (left : Option Bytes) (settings : Settings) (options : objects.Options)
    (first : List Data) (last : LastLine) (Is : OfIndex) → map Some first
    ≡ map reading (filter is_filled (last.text.items ∷ [])) → options ≡ options_of settings first
    → (text : Bytes) × AreAll (option_append (Some head) left) text × IsMadeOfLines options text Is
    → IfSome left (λ rest. IsHeadOf head rest last.text.items last.before
    → IsLinesMadeWith settings (head ++ rest) Is)
chained_made head None settings options first last Is are told is = tt
chained_made head (Some rest) settings options first last Is are told is = λ is_head.
    made_with settings (head ++ rest) options first (first_begins head rest last.text.items last.before is_head first
    are) told Is (subst (λ t. IsMadeOfLines options t Is) (sym is.1) is.2)

module _ (head : Bytes) (left : Option Bytes) (settings : Settings) (last : LastLine) (trouble : InputError) where
  -- the first line is not JSON
  pub chained_unread : IsMemoryOr ((is_filled last.text.items ≡ true) × (reading last.text.items ≡ None)) trouble
      → IfPlaced (IsBelow last.before (IsPlaceIn last.text.items)) trouble
      → IfSome left (λ rest. IsHeadOf head rest last.text.items last.before
      → AreRefusedFrom settings (head ++ rest) trouble)
  chained_unread reason placed = at left trouble reason placed where
    at : (known : Option Bytes) (e : InputError)
        → IsMemoryOr ((is_filled last.text.items ≡ true) × (reading last.text.items ≡ None)) e
        → IfPlaced (IsBelow last.before (IsPlaceIn last.text.items)) e
        → IfSome known (λ rest. IsHeadOf head rest last.text.items last.before
        → AreRefusedFrom settings (head ++ rest) e)
    at None e is there = tt
    at (Some rest) Memory is there = λ is_head. tt
    at (Some rest) (Device failed) is there = λ is_head. tt
    at (Some rest) (Refused message) is there = λ is_head. refused_unread (head ++ rest) is_head.before last.text.items
        last.before (head_line head rest last.text.items last.before is_head is.0) settings is_head.blank is.1
        message there
    at (Some rest) TooManyLines is there = absurd is

  module _ (options : objects.Options) (first : List Data) (are : map Some first
      ≡ map reading (filter is_filled (last.text.items ∷ []))) (told : options ≡ options_of settings first) where
    -- or it is no document
    pub chained_first : IsRefusedFirst options first last trouble
        → IfSome left (λ rest. IsHeadOf head rest last.text.items last.before
        → AreRefusedFrom settings (head ++ rest) trouble)
    chained_first refused = at left trouble refused where
      at : (known : Option Bytes) (e : InputError) → IsRefusedFirst options first last e
          → IfSome known (λ rest. IsHeadOf head rest last.text.items last.before
          → AreRefusedFrom settings (head ++ rest) e)
      at None e is = tt
      at (Some rest) Memory is = λ is_head. tt
      at (Some rest) (Device failed) is = λ is_head. tt
      at (Some rest) (Refused message) is = λ is_head.
          (let d = is.0 in
          let problem = is.2 in
          let one = one_read last.text.items d is.1 (ap (λ ds. map Some ds) (sym is.3) ∙ are) in
          refused_line (head ++ rest) is_head.before last.text.items last.before
          (head_line head rest last.text.items last.before is_head one.0) settings options first
          (first_begins head rest last.text.items last.before is_head first are) told 1 problem
          (record {
            items = [];
            documents = [];
            are_values = sym (ap (map reading) is_head.blank);
            are_documents =
                tt;
            number_is = refl;
            has = subst (λ o. HasLineProblem options o problem) (sym one.1) is.4;
          })
          message is.5)
      at (Some rest) TooManyLines is = absurd is

    -- or a line after it is none
    pub chained_document : (number : ℕ) (problem : ObjectFault) (later : LastLine) (message : Message) → (before : Bytes)
        × IsLineAfter (option_append (Some head) left) before later.text.items later.before
        × IsFirstNoDocument options before later.text.items number problem
        → IfSome message.place (IsBelow later.before (IsPlaceInLine options later.text.items problem))
        → IfSome left (λ rest. IsHeadOf head rest last.text.items last.before
        → AreRefusedFrom settings (head ++ rest) (Refused message))
    chained_document number problem later message stops placed = at left stops where
      at : (known : Option Bytes) → (before : Bytes) × IsLineAfter (option_append (Some head) known) before
          later.text.items later.before × IsFirstNoDocument options before later.text.items number problem
          → IfSome known (λ rest. IsHeadOf head rest last.text.items last.before
          → AreRefusedFrom settings (head ++ rest) (Refused message))
      at None is = tt
      at (Some rest) is = λ is_head.
          refused_line (head ++ rest) is.0 later.text.items later.before is.1 settings options first
          (first_begins head rest last.text.items last.before is_head first are) told number problem is.2 message
          placed

    -- or the settings fail
    pub chained_settings : (refusal : Refusal) (message : Message) → message.place ≡ None
        → ((d : Data) (rest : List Data) → first ≡ d ∷ rest → (doc : Document) × IsDocumentOf options d doc)
        → FailsAt (job_of options []) refusal
        → IfSome left (λ rest. IsHeadOf head rest last.text.items last.before
        → AreRefusedFrom settings (head ++ rest) (Refused message))
    chained_settings refusal message unplaced each fails = at left where
      at : (known : Option Bytes) → IfSome known (λ rest. IsHeadOf head rest last.text.items last.before
          → AreRefusedFrom settings (head ++ rest) (Refused message))
      at None = tt
      at (Some rest) = λ is_head.
          (let docs = one_document options last.text.items first are each in
          let values = first_of_head head rest last.text.items last.before is_head first are in
          let of_first : FailObjects options first =
          (error.Refused refusal, (λ same. cc), (docs.0, docs.1, fails_also options docs.0 refusal fails)) in (
            head,
            (rest, head_ends head rest last.text.items last.before is_head, refl),
            inr (first, values, subst (λ (o : objects.Options). FailObjects o first) told of_first),
            subst (λ place. IfSome place (IsLinesPlace settings head)) (sym unplaced) tt,
          ))

-- or lines are refused
pub chained_lines : (head : Bytes) (left : Option Bytes) (settings : Settings) (last : LastLine)
    (options : objects.Options) (first : List Data) → map Some first
    ≡ map reading (filter is_filled (last.text.items ∷ [])) → options ≡ options_of settings first
    → ((d : Data) (rest : List Data) → first ≡ d ∷ rest → (doc : Document) × IsDocumentOf options d doc)
    → (trouble : InputError) → AreRefusedLines options (option_append (Some head) left) trouble
    → IfSome left (λ rest. IsHeadOf head rest last.text.items last.before
    → AreRefusedFrom settings (head ++ rest) trouble)
chained_lines head None settings last options first are told each trouble is = tt
chained_lines head (Some rest) settings last options first are told each Memory is = λ is_head. tt
chained_lines head (Some rest) settings last options first are told each (Device failed) is = λ is_head. tt
chained_lines head (Some rest) settings last options first are told each (Refused message) is = elim is [
  | inl f ↦ chained_settings head (Some rest) settings last (Refused message) options first are told f.0 message f.2
      each f.1
  | inr s ↦ chained_document head (Some rest) settings last (Refused message) options first are told s.1 s.2 s.0 message s.3 s.4
]
chained_lines head (Some rest) settings last options first are told each TooManyLines is = λ is_head. is

-- the exit of a call
pub exit_at : {T E : Type 0} (r : Result T E) (P : E → Type 0) (e : E)
    → IsErrAnd r (λ y. y ≡ e) → P e → IfErr r P
exit_at (Ok x) P e is p = tt
exit_at (Err x) P e is p = subst P (sym is) p

-- a problem that was found
pub some_problem : {X : Type 0} (o : Option X) (x : X) (P : X → Type 0) → o ≡ Some x → IfSome o P → P x
some_problem o x P is p = subst (λ found. IfSome found P) is p

-- why no index of lines is printed
pub fails_document : (options : objects.Options) (left other : Option Bytes) (last : LastLine) (e : LinesError)
    (number : ℕ) (problem : ObjectFault) → e ≡ lines_error.Document number problem → left ≡ other
    → FailsLines options left last e → StopsAtLine options other last number problem
fails_document options left other last e number problem is same fails =
    let stops = subst (FailsLines options left last) is fails in
    subst (λ known. StopsAtLine options known last number problem) same stops.1

-- there are too many
pub fails_too_many : (options : objects.Options) (left : Option Bytes) (last : LastLine) (e : LinesError)
    → e ≡ lines_error.TooManyLines → FailsLines options left last e → IfSome left HasTooManyLines
fails_too_many options left last e is fails = (subst (FailsLines options left last) is fails).1
