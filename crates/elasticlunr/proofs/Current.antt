-- Where nothing is left but the current documents, these decide the text.
use Rattle.std.proofs.Common.{◌≡◌, ◌⊎◌, inl, inr, ℕ, List, [], ◌∷◌, ◌++◌, map, Bool, true, false, cond, not, ◌&&◌, ◌||◌}
use Rattle.std.proofs.Common.{Option, None, Some, IsTrue, bytes_eq, true≢false, refl, sym, ap, subst, ◌∙◌}
use Rattle.std.proofs.lemmas.Slice.Eq.{bytes_eq-Decides}
use Rattle.std.specs.List.{AllZip}
use Rattle.elasticlunr_text.specs.Text.{Text, Bytes}
use Rattle.serde_json.specs.Data.{Data}
use Rattle.elasticlunr.specs.Current.{values_after, current, LeaveOnlyCurrent, IsPrintedAfter}
use Rattle.elasticlunr.specs.Calls.{Call, adding, removing, compacting, HasOneDocument, followed_by, IsCommandOf}
use Rattle.elasticlunr.specs.Calls.{AreCommandsOf}
use Rattle.elasticlunr.specs.Documents.{IsDocument}
use Rattle.elasticlunr_commands.specs.Fields.{has_name, all_differ}
use Rattle.elasticlunr_commands.specs.History.{Document, Command, add, remove, compact, Commands, none, ◌▸◌, now, Agree}
use Rattle.elasticlunr_commands.specs.History.{EndsCompacted, AddsEachOnce}
use Rattle.elasticlunr_print.specs.Printed.{IsValue}
use Rattle.elasticlunr_commands.specs.Standing.{Plan}
use Rattle.elasticlunr_commands.proofs.Adding.{same}
use Rattle.elasticlunr_commands.proofs.Agreeing.{holds_agreed}
use Rattle.elasticlunr_print.proofs.Fresh.{fresh_value}

-- both are absent, or the document is made of the values
unfoldable pub IsMadeOf : (makes : List Bytes → Document → Type 0) → Option (List Bytes) → Option Document → Type 0
IsMadeOf makes None None = Unit {0}
IsMadeOf makes None (Some d) = ⊥
IsMadeOf makes (Some values) None = ⊥
IsMadeOf makes (Some values) (Some d) = makes values d

one_current : (makes : List Bytes → Document → Type 0)
    → ((values : List Bytes) (d e : Document) → makes values d → makes values e → d ≡ e)
    → (values : Option (List Bytes)) (d e : Option Document) → IsMadeOf makes values d → IsMadeOf makes values e → d ≡ e
unfolding IsMadeOf
one_current makes one None None None is other = refl
one_current makes one None None (Some e) is other = absurd other
one_current makes one None (Some d) e is other = absurd is
one_current makes one (Some values) None e is other = absurd is
one_current makes one (Some values) (Some d) None is other = absurd other
one_current makes one (Some values) (Some d) (Some e) is other = ap Some (one values d e is other)

module _ (fields : List Bytes) (reference_field : Bytes) (reads : ℕ → Bytes → List Text → Type 0) where
  Makes : Bytes → List Bytes → Document → Type 0
  Makes = IsDocument fields reference_field reads

  Leads : List Call → List Command → Type 0
  Leads calls list = AllZip (IsCommandOf (IsDocument fields reference_field reads)) calls list

  -- the current document is made of the current values
  pub current_made : (r : Bytes) (calls : List Call) (list : List Command)
      → AllZip (IsCommandOf (IsDocument fields reference_field reads)) calls list
      → (before : Option (List Bytes)) (commands : Commands)
      → IsMadeOf (IsDocument fields reference_field reads r) before (now commands r)
      → IsMadeOf (IsDocument fields reference_field reads r) (values_after before calls r)
      (now (followed_by commands list) r)
  unfolding IsMadeOf
  current_made r [] [] all before commands is = is
  current_made r [] (command ∷ list) all before commands is = absurd all
  current_made r (call ∷ calls) [] all before commands is = absurd all
  current_made r (adding s values ∷ calls) (add d ∷ list) all before commands is =
      current_made r calls list all.1 (cond (bytes_eq r s) (Some values) before) (commands ▸ add d)
      (subst (λ q. IsMadeOf (IsDocument fields reference_field reads r) (cond (bytes_eq r s) (Some values) before)
      (cond (bytes_eq r q) (Some d) (now commands r))) (sym all.0.its_reference) (by_test (bytes_eq r s) refl))
    where
      by_test : (b : Bool) → bytes_eq r s ≡ b → IsMadeOf (IsDocument fields reference_field reads r)
          (cond b (Some values) before) (cond b (Some d) (now commands r))
      by_test true e = subst (λ q. IsDocument fields reference_field reads q values d) (sym (same r s e)) all.0
      by_test false e = is
  current_made r (adding s values ∷ calls) (remove gone ∷ list) all before commands is = absurd all.0
  current_made r (adding s values ∷ calls) (compact ∷ list) all before commands is = absurd all.0
  current_made r (removing s ∷ calls) (add d ∷ list) all before commands is = absurd all.0
  current_made r (removing s ∷ calls) (remove gone ∷ list) all before commands is =
      current_made r calls list all.1 (cond (bytes_eq r s) None before) (commands ▸ remove gone)
      (subst (λ q. IsMadeOf (IsDocument fields reference_field reads r) (cond (bytes_eq r s) None before)
      (cond (bytes_eq r q) None (now commands r))) all.0 (by_test (bytes_eq r s))) where
        by_test : (b : Bool) → IsMadeOf (IsDocument fields reference_field reads r) (cond b None before)
            (cond b None (now commands r))
        by_test true = tt
        by_test false = is
  current_made r (removing s ∷ calls) (compact ∷ list) all before commands is = absurd all.0
  current_made r (compacting ∷ calls) (add d ∷ list) all before commands is = absurd all.0
  current_made r (compacting ∷ calls) (remove gone ∷ list) all before commands is = absurd all.0
  current_made r (compacting ∷ calls) (compact ∷ list) all before commands is = current_made r calls list all.1 before
      (commands ▸ compact) is

  -- equal current values make equal current documents
  same_now : HasOneDocument (IsDocument fields reference_field reads)
      → (calls others : List Call) (left right : Commands) → AreCommandsOf (IsDocument fields reference_field reads)
      calls left
      → AreCommandsOf (IsDocument fields reference_field reads) others right
      → ((r : Bytes) → current calls r ≡ current others r) → (r : Bytes) → now left r ≡ now right r
  unfolding IsMadeOf
  same_now one calls others left right are also is r =
      let mine = current_made r calls are.list are.each None none tt in
      let other = current_made r others also.list also.each None none tt in
      ap (λ c. now c r) are.whole
      ∙ one_current (IsDocument fields reference_field reads r) (λ values. one r values) (current others r) _ _
      (subst (λ v. IsMadeOf (IsDocument fields reference_field reads r) v (now (followed_by none are.list) r))
      (is r) mine) other
      ∙ ap (λ c. now c r) (sym also.whole)

  -- calls that end with a compaction are commands that do
  ends_compacted : (earlier : List Call) (list : List Command) (commands : Commands)
      → AllZip (IsCommandOf (IsDocument fields reference_field reads)) (earlier ++ compacting ∷ []) list
      → EndsCompacted (followed_by commands list)
  ends_compacted [] [] commands all = absurd all
  ends_compacted [] (add d ∷ list) commands all = absurd all.0
  ends_compacted [] (remove gone ∷ list) commands all = absurd all.0
  ends_compacted [] (compact ∷ []) commands all = tt
  ends_compacted [] (compact ∷ next ∷ list) commands all = absurd all.1
  ends_compacted (call ∷ earlier) [] commands all = absurd all
  ends_compacted (call ∷ earlier) (command ∷ list) commands all = ends_compacted earlier list (commands ▸ command) all.1

  -- documents of different references are each added once
  adds_once : (documents : List (Bytes × List Bytes)) (list : List Command) (commands : Commands)
      → AllZip (IsCommandOf (IsDocument fields reference_field reads)) (map (λ d. adding d.0 d.1) documents) list
      → IsTrue (all_differ (map (λ d. d.0) documents)) → AddsEachOnce commands
      → ((r : Bytes) → IsTrue (has_name r (map (λ d. d.0) documents)) → now commands r ≡ None)
      → AddsEachOnce (followed_by commands list)
  adds_once [] [] commands all differ once absent = once
  adds_once [] (command ∷ list) commands all differ once absent = absurd all
  adds_once (d ∷ documents) [] commands all differ once absent = absurd all
  adds_once (d ∷ documents) (remove gone ∷ list) commands all differ once absent = absurd all.0
  adds_once (d ∷ documents) (compact ∷ list) commands all differ once absent = absurd all.0
  adds_once (d ∷ documents) (add e ∷ list) commands all differ once absent =
      let own : bytes_eq d.0 d.0 ≡ true = (bytes_eq-Decides d.0 d.0).1 refl in
      let its : now commands e.reference ≡ None = subst (λ q. now commands q ≡ None) (sym all.0.its_reference)
      (absent d.0 (ap (λ b. b || has_name d.0 (map (λ d. d.0) documents)) own)) in
      adds_once documents list (commands ▸ add e) all.1 (rest (has_name d.0 (map (λ d. d.0) documents)) _ differ)
      (its, once) (λ r there. by_test r there (bytes_eq r e.reference) refl) where
        rest : (a b : Bool) → (not a && b) ≡ true → b ≡ true
        rest true b h = absurd (true≢false (sym h))
        rest false b h = h

        first : (a b : Bool) → (not a && b) ≡ true → a ≡ false
        first true b h = absurd (true≢false (sym h))
        first false b h = refl

        later : (b : Bool) (c : Bool) → c ≡ true → (b || c) ≡ true
        later true c h = refl
        later false c h = h

        by_test : (r : Bytes) → IsTrue (has_name r (map (λ d. d.0) documents)) → (b : Bool) → bytes_eq r e.reference ≡ b
            → cond b (Some e) (now commands r) ≡ None
        by_test r there true is = absurd (true≢false (sym there ∙ ap (λ q. has_name q (map (λ d. d.0) documents))
            (same r e.reference is ∙ all.0.its_reference) ∙ first (has_name d.0 (map (λ d. d.0) documents)) _ differ))
        by_test r there false is = absent r (later (bytes_eq d.0 r) (has_name r (map (λ d. d.0) documents)) there)

-- a compaction after them changes no value
as_compacted : (plan : Plan) (commands : Commands) (v : Data) → (EndsCompacted commands ⊎ AddsEachOnce commands)
    → IsValue plan commands v → IsValue plan (commands ▸ compact) v
as_compacted plan commands v (inl ends) value = record {
  tables = value.tables;
  contents = value.contents;
  holds = holds_agreed commands (commands ▸ compact) plan value.tables value.contents
      (inr (inr (record { left_ends = ends; right_ends = tt; same = λ r. refl }))) value.holds;
  printed = value.printed;
}
as_compacted plan commands v (inr once) value =
    (fresh_value (commands ▸ compact) commands plan v tt (record { once = once; same = λ r. refl })).1 value

leave_only : (plan : Plan) (reads : ℕ → Bytes → List Text → Type 0) (calls : List Call) (commands : Commands)
    → LeaveOnlyCurrent calls → AreCommandsOf (IsDocument plan.fields plan.reference_field reads) calls commands
    → EndsCompacted commands ⊎ AddsEachOnce commands
leave_only plan reads calls commands (inl ends) are =
    inl (subst EndsCompacted (sym are.whole) (ends_compacted plan.fields plan.reference_field reads ends.earlier
    are.list none (subst (λ cs. AllZip (IsCommandOf (IsDocument plan.fields plan.reference_field reads)) cs are.list)
    ends.are are.each)))
leave_only plan reads calls commands (inr once) are = inr (subst AddsEachOnce (sym are.whole)
    (adds_once plan.fields plan.reference_field reads once.documents are.list none
    (subst (λ cs. AllZip (IsCommandOf (IsDocument plan.fields plan.reference_field reads)) cs are.list) once.are
    are.each) once.differ tt (λ r there. refl)))

-- the texts are equal, where a value is read as one document and commands that agree have one value
pub current_text : (reads : ℕ → Bytes → List Text → Type 0) (plan : Plan)
    → HasOneDocument (IsDocument plan.fields plan.reference_field reads)
    → ((p : Plan) (c d : Commands) (v w : Data) → Agree c d → IsValue p c v → IsValue p d w → v ≡ w)
    → (text_of : Data → List ℕ) (calls others : List Call) (text another : List ℕ)
    → LeaveOnlyCurrent calls → LeaveOnlyCurrent others → ((r : Bytes) → current calls r ≡ current others r)
    → IsPrintedAfter reads text_of plan calls text → IsPrintedAfter reads text_of plan others another → text
    ≡ another
current_text reads plan one values text_of calls others text another leave also is printed other =
    let alike = same_now plan.fields plan.reference_field reads one calls others printed.commands other.commands
    printed.were other.were is in
    let mine = as_compacted plan printed.commands printed.printed.0
    (leave_only plan reads calls printed.commands leave printed.were) printed.printed.1 in
    let its = as_compacted plan other.commands other.printed.0
    (leave_only plan reads others other.commands also other.were) other.printed.1 in
    printed.printed.2
    ∙ ap text_of (values plan (printed.commands ▸ compact) (other.commands ▸ compact) printed.printed.0 other.printed.0
    (inr (inr (record { left_ends = tt; right_ends = tt; same = alike }))) mine its)
    ∙ sym other.printed.2
