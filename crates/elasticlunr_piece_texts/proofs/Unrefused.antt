-- A text that is the head of the pieces of an index is refused only where memory runs out.
use Rattle.std.proofs.Common.{◌≡◌, ◌≢◌, ◌<◌, ◌+◌, ◌⊎◌, inl, inr, ℕ, Bool, List, [], ◌∷◌, ◌++◌, length, map, get_or, Option, Some, None}
use Rattle.std.proofs.Common.{Result, Ok, Err, IfErr, IsOkUnless, refl, sym, ap, subst, ◌∙◌, arith, if◌then◌else◌}
use Rattle.std.proofs.Common.{length-append, string_bytes}
use Rattle.std.proofs.lemmas.List.{get_or-map, length-map}
use Rattle.std.proofs.lemmas.List.Elements.{All-from_recursion}
use Rattle.std.specs.FinMap.{entries, entries_sorted}
use Rattle.std.specs.Prelude.{All, codes, sum, vec_len}
use Rattle.serde_json.specs.Data.{Data, array, boolean, string}
use Rattle.serde_json.specs.Find.{get}
use Rattle.serde_json.specs.Read.{read}
use Rattle.elasticlunr_error.specs.Text.{Bytes, bytes_of}
use Rattle.elasticlunr_json.specs.Maps.{count}
use Rattle.elasticlunr_piece_head.specs.Fault.{DoesNotFit, IsHeadFault, IsMisfit, no_choice, no_lengths, no_names}
use Rattle.elasticlunr_piece_head.specs.Fault.{no_numbers, no_rising_texts, no_stages, no_text, other_lengths, other_sizes}
use Rattle.elasticlunr_piece_head.specs.Fault.{other_texts, other_titles, unfit}
use Rattle.elasticlunr_piece_head.specs.Fit.{FitLengths, FitSizes, FitTexts, FitTitles, stored}
use Rattle.elasticlunr_piece_head.specs.Head.{Says}
use Rattle.elasticlunr_piece_head.specs.Values.{Has, array_of}
use Rattle.elasticlunr_piece_head.specs.declared.fault.HeadFault.{HeadFault}
use Rattle.elasticlunr_piece_head.specs.declared.fault.HeadFault.TheVariants.{NotRead, Older, Member, Memory}
use Rattle.elasticlunr_piece_head.specs.declared.head.PieceHead.{PieceHead}
use Rattle.elasticlunr_pieces.specs.Cut.{IsCut}
use Rattle.elasticlunr_pieces.specs.Entries.{documents_text, kept_documents, references, titles_text}
use Rattle.elasticlunr_pieces.specs.Head.{counts, counts_of, firsts}
use Rattle.elasticlunr_pieces.specs.Pieces.{ArePieces, all_sizes, sizes_of, titles_in, tokens_text}
use Rattle.elasticlunr_print.specs.declared.parts.Parts.{Parts}
use Rattle.elasticlunr_store.specs.Contents.{TextMap, length_at}
use Rattle.elasticlunr_piece_texts.specs.Texts.{beginnings_of, printed_head}
use Rattle.elasticlunr_piece_texts.proofs.HeadFits.{columns_items, counts_items, counts_some, counts_told, counts_total}
use Rattle.elasticlunr_piece_texts.proofs.HeadFits.{differ, firsts_rise, kept_many, keys_rise, texts_items, titles_many}
use Rattle.elasticlunr_piece_texts.proofs.PlainPieces.{as_many_firsts}
use Rattle.elasticlunr_piece_texts.proofs.Told.{columns_told, names_told, some_array}

same_choice : (a b : Bool) → Some (boolean a) ≡ Some (boolean b) → b ≡ a
same_choice a b e = cc

-- each list of those that a function makes of others is as long
as_long : {V : Type 0} (f : V → List (Option ℕ)) (h : Bytes → Bytes → Option ℕ) (names fields : List Bytes) (vs : List V)
    → map f vs ≡ map (λ field. map (h field) names) fields → (k : ℕ) (d : V) → k < length vs
    → length (f (get_or vs k d)) ≡ length names
as_long f h names fields vs is k d lt =
    let many : length vs ≡ length fields = sym (length-map vs f) ∙ ap length is
    ∙ length-map fields (λ field. map (h field) names) in
    ap length (sym (get_or-map f vs k d [] lt) ∙ ap (λ xs. get_or xs k []) is
    ∙ get_or-map (λ field. map (h field) names) fields k [] [] (omega (arith, lt, many)))
    ∙ length-map names (h (get_or fields k []))

abbrev columns : PieceHead → List (List (Option ℕ))
columns it = map (λ column. column.items) it.lengths.items

module _ (parts : Parts) (field : Bytes) (size : ℕ) (tries : List (List Bytes)) (texts : List (List TextMap))
    (titles : List (List Bytes)) (a : ArePieces parts field size tries texts titles) where
  abbrev v : Data
  v = printed_head parts field tries texts titles

  abbrev fields : List Bytes
  fields = map string_bytes parts.fields.now

  abbrev names : List Bytes
  names = references parts.store.now

  -- what any head says that is read of it
  module _ (other : PieceHead) (says : Says (printed_head parts field tries texts titles) other) where
    its_fields : bytes_of other.fields.items ≡ fields
    its_fields = names_told (bytes_of other.fields.items) fields (some_array _ _ says.fields)

    its_names : bytes_of other.references.items ≡ names
    its_names = names_told (bytes_of other.references.items) names (some_array _ _ says.references)

    its_lengths : columns other ≡ map (λ f. map (λ r. length_at parts.store.now r f) names) fields
    its_lengths = columns_told parts.store.now fields names (columns other) (some_array _ _ says.lengths)

    its_tries : bytes_of other.tries.items ≡ firsts tries
    its_tries = names_told (bytes_of other.tries.items) (firsts tries) (some_array _ _ says.tries)

    many_names : vec_len other.references ≡ length names
    many_names = other.references.ok.0 ∙ sym (length-map other.references.items string_bytes) ∙ ap length its_names

    many_fields : vec_len other.fields ≡ length fields
    many_fields = other.fields.ok.0 ∙ sym (length-map other.fields.items string_bytes) ∙ ap length its_fields

    lengths_fit : FitLengths other
    lengths_fit = (
      other.lengths.ok.0 ∙ sym (length-map other.lengths.items (λ column. column.items)) ∙ ap length its_lengths
          ∙ length-map fields (λ f. map (λ r. length_at parts.store.now r f) names) ∙ sym many_fields,
      λ k d lt. (get_or other.lengths.items k d).ok.0
          ∙ as_long (λ column. column.items) (λ f r. length_at parts.store.now r f) names fields other.lengths.items
          its_lengths k d lt
          ∙ sym many_names,
    )

    stored_is : stored other ≡ length (kept_documents parts.store.now)
    stored_is = (λ i. if same_choice parts.store.now.save other.save says.save i then many_names i else 0)
        ∙ sym (kept_many parts.store.now)

    its_texts : other.texts.items ≡ counts_of texts
    its_texts = counts_told (counts_of texts) other.texts.items (some_array _ _ says.texts)

    its_titles : other.titles.items ≡ counts_of titles
    its_titles = counts_told (counts_of titles) other.titles.items (some_array _ _ says.titles)

    its_sizes : other.sizes.items ≡ all_sizes parts tries texts titles
    its_sizes = counts_told (all_sizes parts tries texts titles) other.sizes.items (some_array _ _ says.sizes)

    texts_fit : FitTexts other
    texts_fit = (
      subst (All (λ n. n ≢ 0)) (sym its_texts)
          (All-from_recursion (λ n. n ≢ 0) (counts_of texts) (counts_some documents_text _ texts
          (kept_documents parts.store.now) a.texts_cut)),
      ap sum its_texts ∙ counts_total documents_text _ texts (kept_documents parts.store.now) a.texts_cut
          ∙ sym stored_is,
    )

    titles_total : sum other.titles.items ≡ length (titles_in parts field)
    titles_total = ap sum its_titles ∙ counts_total titles_text _ titles (titles_in parts field) a.titles_cut

    none_or_stored : (length (titles_in parts field) ≡ 0)
        ⊎ (length (titles_in parts field) ≡ length (kept_documents parts.store.now))
        → (sum other.titles.items ≡ 0) ⊎ (sum other.titles.items ≡ stored other)
    none_or_stored (inl none) = inl (titles_total ∙ none)
    none_or_stored (inr all) = inr (titles_total ∙ all ∙ sym stored_is)

    titles_fit : FitTitles other
    titles_fit = (
      subst (All (λ n. n ≢ 0)) (sym its_titles)
          (All-from_recursion (λ n. n ≢ 0) (counts_of titles) (counts_some titles_text _ titles
          (titles_in parts field) a.titles_cut)),
      none_or_stored (titles_many fields field parts.store.now),
    )

    sizes_fit : FitSizes other
    sizes_fit =
        let tops = other.tries.ok.0 ∙ sym (length-map other.tries.items string_bytes) ∙ ap length its_tries
        ∙ as_many_firsts (tokens_text parts) size tries a.tokens a.tries_cut in
        let documents = other.texts.ok.0 ∙ ap length its_texts ∙ length-map texts (λ group. length group) in
        let headings = other.titles.ok.0 ∙ ap length its_titles ∙ length-map titles (λ group. length group) in
        let one = length-map tries (λ group. length (tokens_text parts group)) in
        let two = length-map texts (λ group. length (documents_text group)) in
        let three = length-map titles (λ group. length (titles_text group)) in
        let first = length-append (sizes_of (tokens_text parts) tries) (sizes_of documents_text texts) in
        let both = length-append (sizes_of (tokens_text parts) tries ++ sizes_of documents_text texts)
        (sizes_of titles_text titles) in
        other.sizes.ok.0 ∙ ap length its_sizes ∙ both ∙ (λ i. first i + three i) ∙ (λ i. (one i + two i) + length titles)
        ∙ (λ i. (sym tops i + sym documents i) + sym headings i)

    fits : (key : Bytes) → DoesNotFit other key → ⊥
    fits key (other_lengths none) = none lengths_fit
    fits key (other_texts none) = none texts_fit
    fits key (other_titles none) = none titles_fit
    fits key (other_sizes none) = none sizes_fit

  no_misfit : (key : Bytes) → IsMisfit (printed_head parts field tries texts titles) key → ⊥
  no_misfit key (no_text (inl e) none) = none
      (beginnings_of parts field tries texts titles).folder
      (subst (λ k. Has v k (string (beginnings_of parts field tries texts titles).folder)) (sym e) refl)
  no_misfit key (no_text (inr (inl e)) none) = none parts.language.now
      (subst (λ k. Has v k (string parts.language.now)) (sym e) refl)
  no_misfit key (no_text (inr (inr e)) none) = none parts.ref_field.now
      (subst (λ k. Has v k (string parts.ref_field.now)) (sym e) refl)
  no_misfit key (no_stages none) = none (map string_bytes parts.stages.now)
      (ap (λ items. Some (array items)) (texts_items (map string_bytes parts.stages.now)))
  no_misfit key (no_names none) = none fields (ap (λ items. Some (array items)) (texts_items fields))
      (differ fields parts.distinct)
  no_misfit key (no_rising_texts (inl e) none) = none names
      (subst (λ k. Has v k (array_of string names)) (sym e)
      (ap (λ items. Some (array items)) (texts_items names)))
      (keys_rise (entries parts.store.now.texts) (entries_sorted parts.store.now.texts))
  no_misfit key (no_rising_texts (inr e) none) = none (firsts tries)
      (subst (λ k. Has v k (array_of string (firsts tries))) (sym e)
      (ap (λ items. Some (array items)) (texts_items (firsts tries))))
      (firsts_rise (tokens_text parts) size tries a.tokens a.tries_cut a.are_tokens.order)
  no_misfit key (no_numbers (inl e) none) = none (all_sizes parts tries texts titles)
      (subst (λ k. Has v k (array_of count (all_sizes parts tries texts titles))) (sym e)
      (ap (λ items. Some (array items)) (counts_items (all_sizes parts tries texts titles))))
  no_misfit key (no_numbers (inr (inl e)) none) = none (counts_of texts)
      (subst (λ k. Has v k (array_of count (counts_of texts))) (sym e)
      (ap (λ items. Some (array items)) (counts_items (counts_of texts))))
  no_misfit key (no_numbers (inr (inr e)) none) = none (counts_of titles)
      (subst (λ k. Has v k (array_of count (counts_of titles))) (sym e)
      (ap (λ items. Some (array items)) (counts_items (counts_of titles))))
  no_misfit key (no_lengths none) = none _ (ap (λ items. Some (array items)) (columns_items parts.store.now fields names))
  no_misfit key (no_choice none) = none parts.store.now.save refl
  no_misfit key (unfit other says none) = fits other says key none

  module _ (text : Bytes) (reads : read text ≡ Some (printed_head parts field tries texts titles)) where
    same : (w : Data) → read text ≡ Some w → w ≡ printed_head parts field tries texts titles
    same w e = let both : Some w ≡ Some (printed_head parts field tries texts titles) = sym e ∙ reads in cc

    only_memory : (e : HeadFault) → IsHeadFault text e → e ≡ Memory
    only_memory NotRead none =
        let both : None ≡ Some (printed_head parts field tries texts titles) = sym none ∙ reads in absurd (cc (both))
    only_memory Older (w, e, none) =
        let both = sym none ∙ ap (get (codes "sizes")) (same w e) in absurd (no_sizes both)
      where
        no_sizes : {d : Data} → None ≡ Some d → ⊥
        no_sizes f = cc
    only_memory (Member key) (w, e, misfit) = absurd (no_misfit key.now (subst (λ d. IsMisfit d key.now) (same w e) misfit))
    only_memory Memory p = refl

    pub unrefused : (answer : Result PieceHead HeadFault) → IfErr answer (IsHeadFault text) → IsOkUnless answer Memory
    unrefused (Ok h) fault = tt
    unrefused (Err e) fault = only_memory e fault
