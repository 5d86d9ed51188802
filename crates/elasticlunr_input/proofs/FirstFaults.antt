-- The first field that comes twice, and the first document that is too long.
use Rattle.std.proofs.Common.{◌≡◌, ◌<◌, ◌≤◌, ◌+◌, ℕ, List, [], ◌∷◌, length, map, take, get_or, true, false, ◌||◌, Bor}
use Rattle.std.proofs.Common.{Some, bytes_eq, option_map, refl, sym, ap, subst, ◌∙◌, arith}
use Rattle.std.proofs.lemmas.List.{take_all, take-map, map_more, length-map}
use Rattle.std.proofs.lemmas.List.Elements.{All-push}
use Rattle.std.proofs.lemmas.Option.{slice_get-map, slice_get-get_or}
use Rattle.std.specs.List.{list_any}
use Rattle.elasticlunr.specs.Fields.{all_differ, borrowed, has_name}
use Rattle.elasticlunr.proofs.Naming.{all_differ-push}
use Rattle.elasticlunr_job_format.specs.JobTold.{document_told}
use Rattle.elasticlunr_job_format.specs.declared.job.Document.{Document}
use Rattle.elasticlunr_input.specs.FirstFaults.{AllFit, IsFirstTooLong, IsFirstTwice}

has_name-borrowed : (name : List ℕ) (fields : List (Bor (List ℕ))) → has_name name (borrowed fields)
    ≡ list_any (λ other. bytes_eq other.now name) fields
has_name-borrowed name [] = refl
has_name-borrowed name (f ∷ fs) = ap (λ b. bytes_eq f.now name || b) (has_name-borrowed name fs)

-- the next field has the name of one before it
pub twice_at : (fields : List (Bor (List ℕ))) (i : ℕ) (e : Bor (List ℕ)) → i < length fields
    → all_differ (borrowed (take i fields)) ≡ true
    → list_any (λ other. bytes_eq other.now (get_or fields i e).now) (take i fields) ≡ true
    → IsFirstTwice (borrowed fields) i
twice_at fields i e lt before found = record {
  name = (get_or fields i e).now;
  before = subst (λ names. all_differ names ≡ true) (sym (take-map (λ s. s.now) i fields)) before;
  there = slice_get-map (λ s. s.now) fields i ∙ ap (option_map (λ s. s.now)) (slice_get-get_or fields i e lt);
  twice = ap (has_name (get_or fields i e).now) (take-map (λ s. s.now) i fields)
      ∙ (has_name-borrowed (get_or fields i e).now (take i fields) ∙ found);
}

-- it has another name than those before it
pub differ_more : (fields : List (Bor (List ℕ))) (i : ℕ) (e : Bor (List ℕ)) → i < length fields
    → all_differ (borrowed (take i fields)) ≡ true
    → list_any (λ other. bytes_eq other.now (get_or fields i e).now) (take i fields) ≡ false
    → all_differ (borrowed (take (i + 1) fields)) ≡ true
differ_more fields i e lt before found =
    ap all_differ (map_more (λ s. s.now) fields i e lt)
    ∙ all_differ-push (borrowed (take i fields)) (get_or fields i e).now before
    (has_name-borrowed (get_or fields i e).now (take i fields) ∙ found)

pub differ_all : (fields : List (Bor (List ℕ))) (i : ℕ) → length fields ≤ i → all_differ (borrowed (take i fields))
    ≡ true → all_differ (borrowed fields) ≡ true
differ_all fields i past so_far = ap (λ names. all_differ (borrowed names)) (sym (take_all i fields past)) ∙ so_far

values_told : (doc : Document) → length (document_told doc).values ≡ length doc.values.items
values_told doc = length-map doc.values.items (λ s. s.now)

fields_told : (fields : List (Bor (List ℕ))) → length (borrowed fields) ≡ length fields
fields_told fields = length-map fields (λ s. s.now)

-- the next document has more values than there are fields
pub too_long_at : (fields : List (Bor (List ℕ))) (docs : List Document) (i : ℕ) (doc : Document) → i < length docs → doc
    ≡ get_or docs i doc → AllFit (borrowed fields) (map document_told (take i docs))
    → length fields < length doc.values.items → IsFirstTooLong (borrowed fields) (map document_told docs) i
too_long_at fields docs i doc lt is before over = record {
  doc = document_told doc;
  before = subst (AllFit (borrowed fields)) (sym (take-map document_told i docs)) before;
  there = slice_get-map document_told docs i ∙ (ap (option_map document_told) (slice_get-get_or docs i doc lt)
      ∙ ap (λ d. Some (document_told d)) (sym is));
  too_many = (let one = values_told doc in let all = fields_told fields in omega arith);
}

-- it has no more
pub fit_more : (fields : List (Bor (List ℕ))) (docs : List Document) (i : ℕ) (doc : Document) → i < length docs → doc
    ≡ get_or docs i doc → AllFit (borrowed fields) (map document_told (take i docs))
    → length doc.values.items ≤ length fields → AllFit (borrowed fields) (map document_told (take (i + 1) docs))
fit_more fields docs i doc lt is before within =
    subst (AllFit (borrowed fields)) (sym (map_more document_told docs i doc lt))
    (All-push (λ d. length d.values ≤ length (borrowed fields)) (map document_told (take i docs))
    (document_told (get_or docs i doc)) before
    (subst (λ d. length (document_told d).values ≤ length (borrowed fields)) is
    (let one = values_told doc in let all = fields_told fields in omega arith)))

pub fit_all : (fields : List (Bor (List ℕ))) (docs : List Document) (i : ℕ) → length docs ≤ i
    → AllFit (borrowed fields) (map document_told (take i docs)) → AllFit (borrowed fields) (map document_told docs)
fit_all fields docs i past so_far = subst (λ ds. AllFit (borrowed fields) (map document_told ds)) (take_all i docs past)
    so_far
