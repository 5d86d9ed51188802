-- An index that held what commands left holds what they leave with one removal, or one compaction, more.
use Rattle.std.proofs.Common.{◌≡◌, ◌⊎◌, inl, inr, ℕ, zero, suc, ◌+◌, ◌<◌, ◌≤◌, zero-add, List, [], ◌∷◌, ◌++◌, length}
use Rattle.std.proofs.Common.{length-set, get_or, arith, Bool, true, false, cond, Option, None, Some, IfSome}
use Rattle.std.proofs.Common.{true≢false, option_map, option_and_then, bytes_eq, refl, sym, ap, subst, ◌∙◌}
use Rattle.std.specs.Prelude.{IsSomeAnd, IsSome, IsTrue, Contains, count_by}
use Rattle.std.specs.List.{slice_get}
use Rattle.std.specs.Option.{option_map_or, is_some}
use Rattle.std.proofs.lemmas.Slice.Eq.{bytes_eq-Decides}
use Rattle.elasticlunr_commands.specs.Root.{IsRoot}
use Rattle.std.proofs.lemmas.List.Sums.{sum_by-cons}
use Rattle.elasticlunr_error.specs.Text.{Text, Bytes}
use Rattle.elasticlunr_trie.specs.Table.{Table, posting, IsPrefix}
use Rattle.elasticlunr_store.specs.Contents.{Contents, without}
use Rattle.elasticlunr_commands.specs.History.{Document, add, remove, compact, Commands, none, ◌▸◌, now}
use Rattle.elasticlunr_commands.specs.Standing.{Plan, tokens_at, Begins, occurrences, IsPosting, IsTableOf, stored}
use Rattle.elasticlunr_commands.specs.Standing.{length_in, IsContentsOf, Holds}
use Rattle.elasticlunr_commands.specs.Entered.{TakesOut, IsCompacted}
use Rattle.elasticlunr_state.proofs.Storing.{found_after_remove, length_without, without_are_contents}
use Rattle.std.proofs.lemmas.Bool.{cases_lt}
use Rattle.std.proofs.lemmas.List.{append-nil, take_all}
use Rattle.std.proofs.Math.Seq.{drop-length}
use Rattle.std.proofs.Common.{take, drop}
use Rattle.std.proofs.Math.ListN.{set}
use Rattle.elasticlunr_state.proofs.Pairing.{set_here, set_elsewhere}
use Rattle.elasticlunr_commands.proofs.Adding.{same, apart, either, both_some, begins_empty}

-- each table after is made of the one before
abbrev pub EachTo : (Table → Table → Type 0) → List Table → List Table → Type 0
EachTo R before after = (i : ℕ) (b a : Table) → slice_get before i ≡ Some b → slice_get after i ≡ Some a → R b a

there : (P Q : Table → Type 0) (R : Table → Table → Type 0) → ((b a : Table) → P b → R b a → Q a)
    → (before after : List Table) (i : ℕ) → length before ≡ length after
    → EachTo R before after → IfSome (slice_get before i) P → (b a : Option Table) → slice_get before i ≡ b
    → slice_get after i ≡ a → (IsSome a → IsSome b) → IfSome a Q
there P Q R step before after i many each was b None eb ea some = tt
there P Q R step before after i many each was None (Some t) eb ea some = absurd (true≢false (sym (some refl)))
there P Q R step before after i many each was (Some s) (Some t) eb ea some = step s t (subst (λ o. IfSome o P) eb was)
    (each i s t eb ea)

module _ (commands : Commands) (r : Bytes) where
  begins_on : (i : ℕ) (text : Text) → Begins commands i text → Begins (commands ▸ remove r) i text
  begins_on i text b = record {
    document = b.document;
    token = b.token;
    counts = b.counts;
    has = b.has;
    begins =
        b.begins;
  }

  begins_off : (i : ℕ) (text : Text) → Begins (commands ▸ remove r) i text → Begins commands i text
  begins_off i text b = record {
    document = b.document;
    token = b.token;
    counts = b.counts;
    has = b.has;
    begins =
        b.begins;
  }

  table_removed : (i : ℕ) (old new : Table) → IsTableOf commands i old → TakesOut old new r
      → IsTableOf (commands ▸ remove r) i new
  table_removed i old new was step = record {
    known = λ text. (
      λ k. either inl (λ b. inr (begins_on i text b)) ((was.known text).0 (subst IsTrue (step.known text) k)),
      λ k. subst IsTrue (sym (step.known text)) ((was.known text).1 (either inl (λ b. inr (begins_off i text b)) k)),
    );
    postings = λ token q given. elim (bytes_eq q r) as (λ b. bytes_eq q r ≡ b
        → IsPosting (option_map_or (count_by (bytes_eq token))
        (option_and_then (tokens_at i) (cond b None (now commands q))) 0) (posting new token q)) [
          | true ↦ λ is. subst (λ x. posting new token x ≡ None) (sym (same q r is)) (step.its_own token)
          | false ↦ λ differs. subst (IsPosting (occurrences commands i token q))
              (sym (step.others token q (apart q r differs))) (was.postings token q given)
        ] refl;
    no_empty = λ q. elim (bytes_eq q r) as (λ b. bytes_eq q r ≡ b → posting new [] q ≡ None) [
      | true ↦ λ is. subst (λ x. posting new [] x ≡ None) (sym (same q r is)) (step.its_own [])
      | false ↦ λ differs. step.others [] q (apart q r differs) ∙ was.no_empty q
    ] refl;
  }

  cases_of_now : {X : Type 0} (f : Document → Option X) (q : Bytes) (b : Bool)
      → option_and_then f (cond b None (now commands q)) ≡ cond b None (option_and_then f (now commands q))
  cases_of_now f q true = refl
  cases_of_now f q false = refl

  cases_of_map : {X : Type 0} (f : Document → X) (q : Bytes) (b : Bool) → option_map f (cond b None (now commands q))
      ≡ cond b None (option_map f (now commands q))
  cases_of_map f q true = refl
  cases_of_map f q false = refl

  contents_removed : (plan : Plan) (old : Contents) → IsContentsOf plan commands old
      → IsContentsOf plan (commands ▸ remove r) (without old r)
  contents_removed plan old was = record {
    are_contents = without_are_contents old r was.are_contents;
    save = was.save;
    texts = λ q. found_after_remove old.texts r q ∙ ap (cond (bytes_eq q r) None) (was.texts q)
        ∙ sym (cases_of_map (stored plan) q (bytes_eq q r));
    lengths = λ q field. length_without old r q field ∙ ap (cond (bytes_eq q r) None) (was.lengths q field)
        ∙ sym (cases_of_now (λ d. length_in plan.fields d.given field) q (bytes_eq q r));
  }

  pub holds_removed : (plan : Plan) (before after : List Table) (old : Contents) → length after ≡ length before
      → EachTo (λ b a. TakesOut b a r) before after
      → Holds plan commands before old → Holds plan (commands ▸ remove r) after (without old r)
  holds_removed plan before after old many each was = record {
    one_each = many ∙ was.one_each;
    each = λ i. there (IsTableOf commands i) (IsTableOf (commands ▸ remove r) i) (λ b a. TakesOut b a r)
        (table_removed i) before after i (sym many) each (was.each i) _ _ refl refl
        (both_some before after i (sym many));
    store = contents_removed plan old was.store;
  }

-- the current document of a reference has that reference
now_reference : (commands : Commands) (r : Bytes) (d : Document) → now commands r ≡ Some d → d.reference ≡ r
now_reference none r d = λ is. cc (is)
now_reference (commands ▸ add e) r d = elim (bytes_eq r e.reference) as (λ b. bytes_eq r e.reference ≡ b
    → cond b (Some e) (now commands r) ≡ Some d → d.reference ≡ r) [
      | true ↦ λ at is. let one : e ≡ d = cc (is) in subst (λ x. x.reference ≡ r) one (sym (same r e.reference at))
      | false ↦ λ at is. now_reference commands r d is
    ] refl
now_reference (commands ▸ remove gone) r d = elim (bytes_eq r gone) as (λ b. cond b None (now commands r) ≡ Some d
    → d.reference ≡ r) [
      | true ↦ λ is. cc (is)
      | false ↦ λ is. now_reference commands r d is
    ]
now_reference (commands ▸ compact) r d = now_reference commands r d

-- a text that is counted stands in the list
stands_next : (token t : Text) (tokens : List Text) → Contains tokens token → Contains (t ∷ tokens) token
stands_next token t tokens c = (suc c.0, omega (arith, c.1), c.2)

pub count_step : (token t : Text) (tokens : List Text) → count_by (bytes_eq token) (t ∷ tokens)
    ≡ cond (bytes_eq token t) 1 0 + count_by (bytes_eq token) tokens
count_step token t tokens = sum_by-cons (λ x. cond (bytes_eq token x) 1 0) t tokens

pub counted_stands : (token : Text) (tokens : List Text) (n : ℕ) → count_by (bytes_eq token) tokens ≡ suc n
    → Contains tokens token
counted_stands token [] n = λ e. absurd (omega arith)
counted_stands token (t ∷ tokens) n = λ counted. elim (bytes_eq token t) as (λ b. bytes_eq token t ≡ b
    → cond b 1 0 + count_by (bytes_eq token) tokens ≡ suc n → Contains (t ∷ tokens) token) [
      | true ↦ λ is e. (0, omega arith, sym (same token t is))
      | false ↦ λ differs e. stands_next token t tokens (counted_stands token tokens n (sym (zero-add _) ∙ e))
    ] refl (sym (count_step token t tokens) ∙ counted)

-- one that stands there is counted
pub stands_counted : (token : Text) (tokens : List Text) (k : ℕ) → k < length tokens → get_or tokens k token ≡ token
    → count_by (bytes_eq token) tokens ≡ 0 → ⊥
stands_counted token [] k inside is e = absurd (omega arith)
stands_counted token (t ∷ tokens) zero inside is e =
    let tested : bytes_eq token t ≡ true = (bytes_eq-Decides token t).1 (sym is) in
    let sum : cond (bytes_eq token t) 1 0 + count_by (bytes_eq token) tokens ≡ 0 = sym (count_step token t tokens)
    ∙ e in
    let counted : 1 + count_by (bytes_eq token) tokens ≡ 0 = subst (λ b. cond b 1 0 + count_by (bytes_eq token) tokens
    ≡ 0) tested sum in
    omega (arith, counted)
stands_counted token (t ∷ tokens) (suc k) inside is e =
    let sum : cond (bytes_eq token t) 1 0 + count_by (bytes_eq token) tokens ≡ 0 = sym (count_step token t tokens)
    ∙ e in
    let later : count_by (bytes_eq token) tokens ≡ 0 = omega (arith, sum) in
    stands_counted token tokens k (omega arith) is later

-- a posting that is there is of a token in a current document
pub from_posted : (i : ℕ) (token : Text) (r : Bytes) (o : Option Document) (posted : Option ℕ)
    → IsPosting (option_map_or (count_by (bytes_eq token)) (option_and_then (tokens_at i) o) 0) posted → IsSome posted
    → (d : Document) × (o ≡ Some d) × IsSomeAnd (tokens_at i d) (λ ts. Contains ts token)
from_posted i token r None posted is some = absurd (true≢false (sym some ∙ ap is_some is))
from_posted i token r (Some d) posted is some = (d, refl, in_tokens (tokens_at i d) is) where
  counted : (tokens : List Text) (n : ℕ) → count_by (bytes_eq token) tokens ≡ n → IsPosting n posted
      → Contains tokens token
  counted tokens zero e absent = absurd (true≢false (sym some ∙ ap is_some absent))
  counted tokens (suc n) e one = counted_stands token tokens n e

  in_tokens : (tokens : Option (List Text)) → IsPosting (option_map_or (count_by (bytes_eq token)) tokens 0) posted
      → IsSomeAnd tokens (λ ts. Contains ts token)
  in_tokens None absent = absurd (true≢false (sym some ∙ ap is_some absent))
  in_tokens (Some tokens) one = counted tokens _ refl one

-- a token in a current document is posted
pub to_posted : (i : ℕ) (token : Text) (d : Document) (posted : Option ℕ)
    → IsSomeAnd (tokens_at i d) (λ ts. Contains ts token)
    → IsPosting (option_map_or (count_by (bytes_eq token)) (tokens_at i d) 0) posted → IsSome posted
to_posted i token d posted has = by_tokens (tokens_at i d) has where
  by_count : (tokens : List Text) (n : ℕ) → count_by (bytes_eq token) tokens ≡ n → Contains tokens token
      → IsPosting n posted → IsSome posted
  by_count tokens zero e has absent = absurd (stands_counted token tokens has.0 has.1 has.2 e)
  by_count tokens (suc n) e has one = some_of posted one where
    some_of : (o : Option ℕ) → IsSomeAnd o (IsRoot (suc n)) → IsSome o
    some_of None h = absurd h
    some_of (Some x) h = refl

  by_tokens : (tokens : Option (List Text)) → IsSomeAnd tokens (λ ts. Contains ts token)
      → IsPosting (option_map_or (count_by (bytes_eq token)) tokens 0) posted → IsSome posted
  by_tokens None has is = absurd has
  by_tokens (Some tokens) has is = by_count tokens _ refl has is

module _ (commands : Commands) where
  table_compacted : (i : ℕ) (old new : Table) → IsTableOf commands i old → IsCompacted old new
      → IsTableOf (commands ▸ compact) i new
  table_compacted i old new was step = record {
    known = λ text. (
      λ k. either inl (λ p. forward text p.0 p.1 p.3 p.2 (bytes_eq p.0 []) refl) ((step.known text).0 k),
      λ k. (step.known text).1 (either inl (λ b. backward text b (bytes_eq b.token []) refl) k),
    );
    postings = λ token r given. subst (IsPosting (occurrences commands i token r)) (sym (step.postings token r))
        (was.postings token r given);
    no_empty = λ r. step.postings [] r ∙ was.no_empty r;
  } where
    forward : (text token : Text) (r : Bytes) → IsSome (posting old token r) → IsPrefix text token → (b : Bool)
        → bytes_eq token [] ≡ b → (text ≡ []) ⊎ Begins (commands ▸ compact) i text
    forward text token r some begins true e =
        absurd (true≢false (sym some ∙ ap is_some (ap (λ t. posting old t r) (same token [] e) ∙ was.no_empty r)))
    forward text token r some begins false e =
        let p = from_posted i token r (now commands r) (posting old token r) (was.postings token r (apart token [] e))
        some in
        inr (record {
          document = p.0;
          token = token;
          counts = ap (now commands) (now_reference commands r p.0 p.1)
              ∙ p.1;
          has = p.2;
          begins = begins;
        })

    backward : (text : Text) (b : Begins (commands ▸ compact) i text) (t : Bool) → bytes_eq b.token [] ≡ t → (text ≡ [])
        ⊎ ((token : Text) × (r : Bytes) × IsPrefix text token × IsSome (posting old token r))
    backward text b true e = inl (begins_empty text b.begins.0 (b.begins.1 ∙ same b.token [] e))
    backward text b false e = inr (
      b.token,
      b.document.reference,
      b.begins,
      to_posted i b.token b.document (posting old b.token b.document.reference) b.has
          (subst (λ o. IsPosting (option_map_or (count_by (bytes_eq b.token)) (option_and_then (tokens_at i) o) 0)
          (posting old b.token b.document.reference)) b.counts
          (was.postings b.token b.document.reference (apart b.token [] e))),
    )

  pub holds_compacted : (plan : Plan) (before after : List Table) (contents : Contents) → length after ≡ length before
      → EachTo IsCompacted before after
      → Holds plan commands before contents → Holds plan (commands ▸ compact) after contents
  holds_compacted plan before after contents many each was = record {
    one_each = many ∙ was.one_each;
    each = λ i. there (IsTableOf commands i) (IsTableOf (commands ▸ compact) i) IsCompacted (table_compacted i) before
        after i (sym many) each (was.each i) _ _ refl refl (both_some before after i (sym many));
    store = record {
      are_contents = was.store.are_contents;
      save = was.store.save;
      texts = was.store.texts;
      lengths =
          was.store.lengths;
    };
  }

-- taking out table by table
pub record IsTakenUpTo (reference : Bytes) (n : ℕ) (old now : List Table) : Type 0 where
  pub as_many : length now ≡ length old
  pub done : (i : ℕ) (before after : Table) → i < n → slice_get old i ≡ Some before → slice_get now i ≡ Some after
      → TakesOut before after reference
  pub rest : (i : ℕ) → n ≤ i → slice_get now i ≡ slice_get old i

pub taken_none : (reference : Bytes) (tables : List Table) → IsTakenUpTo reference 0 tables tables
taken_none reference tables = record {
  as_many = refl;
  done = λ i before after below eb ea. absurd
      (omega (arith, below));
  rest = λ i past. refl;
}

pub taken_more : (reference : Bytes) (n : ℕ) (old now : List Table) (table d : Table) → n < length now
    → IsTakenUpTo reference n old now → TakesOut (get_or now n d) table reference
    → IsTakenUpTo reference (n + 1) old (set now n table)
taken_more reference n old now table d inside so_far out = record {
  as_many = length-set now n table ∙ so_far.as_many;
  done = λ i before after below eb ea. by_place i before after eb ea (at_or_below i n below);
  rest = λ i past. set_elsewhere now n i table (λ is. absurd (omega (arith, past, is)))
      ∙ so_far.rest i (omega (arith, past));
} where
  at_or_below : (i n : ℕ) → i < n + 1 → (i < n) ⊎ (i ≡ n)
  at_or_below i n below = either inl (λ past. inr (omega (arith, below, past))) (cases_lt i n)

  got : (tables : List Table) (k : ℕ) (before : Table) → slice_get tables k ≡ Some before → get_or tables k d ≡ before
  got [] k before e = cc (e)
  got (t ∷ tables) zero before e = cc (e)
  got (t ∷ tables) (suc k) before e = got tables k before e

  by_place : (i : ℕ) (before after : Table) → slice_get old i ≡ Some before → slice_get (set now n table) i ≡ Some after
      → (i < n) ⊎ (i ≡ n) → TakesOut before after reference
  by_place i before after eb ea (inl below) = so_far.done i before after below eb
      (sym (set_elsewhere now n i table (λ is. absurd (omega (arith, below, is)))) ∙ ea)
  by_place i before after eb ea (inr at) =
      let was : slice_get now n ≡ Some before = so_far.rest n (omega arith) ∙ ap (slice_get old) (sym at) ∙ eb in
      let becomes : slice_get (set now n table) n ≡ Some after = ap (slice_get (set now n table)) (sym at) ∙ ea in
      let table_is : table ≡ after = cc (becomes, set_here now n table inside) in
      subst (λ t. TakesOut t after reference) (got now n before was)
      (subst (λ t. TakesOut (get_or now n d) t reference) table_is out)

-- a vector's elements, all of them written
pub written_whole : {A : Type 0} (n : ℕ) (now old : List A) → length now ≡ length old → n ≡ length old
    → take n (now ++ drop (length now) old) ≡ now
written_whole n now old many len =
    ap (λ rest. take n (now ++ rest)) (ap (λ k. drop k old) many ∙ drop-length old) ∙ ap (take n) (append-nil now)
    ∙ take_all n now (omega (arith, many, len))
