-- One command more, or several, of what an index represents.
use Rattle.std.proofs.Common.{◌≡◌, ◌<◌, ◌≤◌, ◌+◌, ℕ, List, [], ◌∷◌, ◌++◌, length, map, take, get_or, All, Any, Bor, Option}
use Rattle.std.proofs.Common.{refl, sym, ap, subst, ◌∙◌}
use Rattle.std.proofs.lemmas.List.{take_more, map-append, get_or-map, take_all, length-map}
use Rattle.std.proofs.lemmas.List.Elements.{All-push}
use Rattle.std.specs.List.{AllZip}
use Rattle.elasticlunr_text.specs.Text.{Bytes, Text}
use Rattle.elasticlunr.specs.declared.values.FieldValue.{FieldValue}
use Rattle.elasticlunr.specs.History.{Command, Commands, Document, add, remove, ◌▸◌}
use Rattle.elasticlunr.specs.Calls.{followed_by}
use Rattle.elasticlunr_job.specs.Commands.{compacted}
use Rattle.elasticlunr_job.specs.Given.{AreGiven, kept_lists}
use Rattle.elasticlunr_job_format.specs.Rules.{WordRules}
use Rattle.elasticlunr_job_format.specs.JobTold.{document_told, job_told}
use Rattle.elasticlunr_job_format.specs.declared.job.Document as held
use Rattle.elasticlunr_job_format.specs.declared.job.Job as held_job
use Rattle.elasticlunr_job.proofs.Taken.{AreMade, Follows, HasDone, HasTaken, Makes, Standing}

followed_by-append : (commands : Commands) (xs ys : List Command) → followed_by commands (xs ++ ys)
    ≡ followed_by (followed_by commands xs) ys
followed_by-append commands [] ys = refl
followed_by-append commands (x ∷ xs) ys = followed_by-append (commands ▸ x) xs ys

pub Follows-append : (old mid new : Standing) (xs ys : List Command) → Follows old mid xs → Follows mid new ys
    → Follows old new (xs ++ ys)
Follows-append old mid new xs ys first then =
    record {
      stands = λ commands old_stands. subst new (sym (followed_by-append commands xs ys))
          (then.stands (followed_by commands xs) (first.stands commands old_stands));
    }

pub map_more : {X Y : Type 0} (f : X → Y) (xs : List X) (i : ℕ) (x : X) → i < length xs → x ≡ get_or xs i x
    → map f (take (i + 1) xs) ≡ map f (take i xs) ++ f x ∷ []
map_more f xs i x lt is = ap (map f) (take_more xs i x lt ∙ ap (λ y. take i xs ++ y ∷ []) (sym is))
    ∙ map-append f (take i xs) (x ∷ [])

pub Any_at : {X Y : Type 0} (f : X → Y) (P : Y → Type 0) (xs : List X) (i : ℕ) (x : X) → i < length xs → x
    ≡ get_or xs i x → P (f x) → Any P (map f xs)
Any_at f P xs i x lt is p = (
  i,
  f x,
  subst (λ n. i < n) (sym (length-map xs f)) lt,
  get_or-map f xs i x (f x) lt
      ∙ ap f (sym is),
  p,
)

pub All_more : {X Y : Type 0} (f : X → Y) (P : Y → Type 0) (xs : List X) (i : ℕ) (x : X) → i < length xs → x
    ≡ get_or xs i x → All P (map f (take i xs)) → P (f x) → All P (map f (take (i + 1) xs))
All_more f P xs i x lt is so_far p = subst (All P) (sym (map_more f xs i x lt is))
    (All-push P (map f (take i xs)) (f x) so_far p)

pub All_whole : {X Y : Type 0} (f : X → Y) (P : Y → Type 0) (xs : List X) (i : ℕ) → length xs ≤ i
    → All P (map f (take i xs)) → All P (map f xs)
All_whole f P xs i past all = subst (λ ys. All P (map f ys)) (take_all i xs past) all

AllZip-push : {A B : Type 0} (R : A → B → Type 0) (xs : List A) (ys : List B) (x : A) (y : B) → AllZip R xs ys → R x y
    → AllZip R (xs ++ x ∷ []) (ys ++ y ∷ [])
AllZip-push R [] [] x y all r = (r, tt)
AllZip-push R [] (b ∷ ys) x y all r = absurd all
AllZip-push R (a ∷ xs) [] x y all r = absurd all
AllZip-push R (a ∷ xs) (b ∷ ys) x y all r = (all.0, AllZip-push R xs ys x y all.1 r)

pub AllZip_more : {X A B : Type 0} (f : X → A) (R : A → B → Type 0) (xs : List X) (ys : List B) (i : ℕ) (x : X) (y : B)
    → i < length xs → x ≡ get_or xs i x → AllZip R (map f (take i xs)) ys → R (f x) y
    → AllZip R (map f (take (i + 1) xs)) (ys ++ y ∷ [])
AllZip_more f R xs ys i x y lt is so_far r = subst (λ zs. AllZip R zs (ys ++ y ∷ [])) (sym (map_more f xs i x lt is))
    (AllZip-push R (map f (take i xs)) ys (f x) y so_far r)

-- one reference more is removed
pub next_removed : (old mid new : Standing) (references : List (Bor Bytes)) (i : ℕ) (d : Bor Bytes)
    → i < length references
    → Follows old mid (map remove (map (λ s. s.now) (take i references)))
    → ((commands : Commands) → mid commands → new (commands ▸ remove (get_or references i d).now))
    → Follows old new (map remove (map (λ s. s.now) (take (i + 1) references)))
next_removed old mid new references i d lt so_far then =
    let before = map remove (map (λ s. s.now) (take i references)) in
    let reference = get_or references i d in
    let more : map remove (map (λ s. s.now) (take (i + 1) references)) ≡ before ++ remove reference.now ∷ [] =
    ap (λ rs. map remove (map (λ s. s.now) rs)) (take_more references i d lt)
    ∙ (ap (map remove) (map-append (λ s. s.now) (take i references) (reference ∷ []))
    ∙ map-append remove (map (λ s. s.now) (take i references)) (reference.now ∷ [])) in
    subst (Follows old new) (sym more) (Follows-append old mid new before (remove reference.now ∷ []) so_far
    (record { stands = then }))

-- values as an index is given them, where they come with the words that rules keep
pub are_given : (rules : Option WordRules) (fields texts : List Bytes) (lists : List (List Text))
    (given handed : List FieldValue) → lists ≡ kept_lists rules fields texts → handed ≡ given
    → AreGiven texts lists given → AreGiven texts (kept_lists rules fields texts) handed
are_given rules fields texts lists given handed kept same are =
    subst (λ ls. AreGiven texts ls handed) kept (subst (AreGiven texts lists) (sym same) are)

-- one document more is taken
pub next_taken : (made : Makes) (old mid new : Standing) (docs : List held.Document) (i : ℕ) (doc : held.Document)
    (values : List (Bor Bytes)) → i < length docs → doc ≡ get_or docs i doc → values ≡ doc.values.items
    → HasTaken made old mid (map document_told (take i docs)) → (document : Document)
    → made doc.reference.now (map (λ s. s.now) values) document
    → ((commands : Commands) → mid commands → new (commands ▸ add document))
    → HasTaken made old new (map document_told (take (i + 1) docs))
next_taken made old mid new docs i doc values lt is same so_far document makes then =
    let before = so_far.documents in
    record {
      documents = before ++ document ∷ [];
      each = AllZip_more document_told (λ asked_doc entered. made asked_doc.reference asked_doc.values entered) docs
          before i doc document lt is so_far.each (subst (λ vs. made doc.reference.now (map (λ s. s.now) vs) document)
          same makes);
      follows = subst (Follows old new) (sym (map-append add before (document ∷ [])))
          (Follows-append old mid new (map add before) (add document ∷ []) so_far.follows (record { stands = then }));
    }

-- all that the job commands
pub done : (made : Makes) (old added removed new : Standing) (job : held_job.Job) (docs : List held.Document) (i : ℕ)
    (references : List (Bor Bytes)) (k : ℕ) → docs ≡ job.docs.items → references ≡ job.remove.items → length docs ≤ i
    → length references ≤ k
    → HasTaken made old added (map document_told (take i docs))
    → Follows added removed (map remove (map (λ s. s.now) (take k references)))
    → Follows removed new (compacted job.compact) → HasDone made old new (job_told job)
done made old added removed new job docs i references k same_docs same_references docs_end references_end took gone end
    =
    let docs_all : take i docs ≡ job.docs.items = take_all i docs docs_end ∙ same_docs in
    let references_all : take k references ≡ job.remove.items = take_all k references references_end
    ∙ same_references in
    let gone_all : Follows added removed (map remove (map (λ s. s.now) job.remove.items)) =
    subst (λ rs. Follows added removed (map remove (map (λ s. s.now) rs))) references_all gone in
    let documents = took.documents in
    record {
      documents = documents;
      each = subst (λ ds. AreMade made (map document_told ds) documents) docs_all took.each;
      follows = Follows-append old removed new (map add documents ++ map remove (map (λ s. s.now) job.remove.items))
          (compacted job.compact)
          (Follows-append old added removed (map add documents) (map remove (map (λ s. s.now) job.remove.items))
          took.follows gone_all) end;
    }
