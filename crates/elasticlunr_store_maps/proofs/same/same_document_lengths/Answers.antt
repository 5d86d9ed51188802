use Rattle.std.proofs.Common.{◌≡◌, true, false, ◌&&◌, [], ◌++◌, ◌∷◌, sym, ap, ◌∙◌, append_assoc, string_bytes, bytes_eq}
use Rattle.std.proofs.Common.{nat_eq}
use Rattle.elasticlunr_json.specs.Maps.{same_map}
use Rattle.elasticlunr_store_maps.specs.Contents.{length_map}
use Rattle.elasticlunr_store_maps.proofs.SameMaps.{rest_decides, front, first_false, second_false, so, not_so}
use Rattle.elasticlunr_store_maps.proofs.SameMaps.{none_left}
use Rattle.elasticlunr_store_maps.proofs.same.same_document_lengths.Goals as goal

pub returns-then-ne : goal.returns-then-ne
returns-then-ne c =
    let held = c.loop-doc_ref.invariant in
    let ours = ap (λ es. held.0 ++ es) (sym c.in-Some.ensures.steps) ∙ held.2 in
    let theirs = ap (λ es. held.1 ++ es) (sym c.in-Some-next.ensures.steps) ∙ held.3 in
    let decides = rest_decides (λ m. length_map m.entries) (λ p q. bytes_eq p.0 q.0 && same_map nat_eq p.1 q.1)
    c.args.a.now.entries c.args.b.now.entries held.0 held.1 ((c.in-Some.doc_ref.now, c.in-Some.lengths.now)
    ∷ c.next.new.self) ((c.in-Some-next.other_ref.now, c.in-Some-next.other.now)
    ∷ c.next-in-loop-doc_ref.new.self) c.iter-doc_ref-items.ensures.ordered c.iter-others.ensures.ordered ours
    theirs held.4 in
    let keys : bytes_eq (string_bytes c.in-Some.doc_ref.now) (string_bytes c.in-Some-next.other_ref.now)
    ≡ false = (λ i. bytes_eq (sym c.as_str.ensures.value i) (sym c.as_str-in-Some-next.ensures.value i))
    ∙ not_so _ _ c.ne.ensures c.if-ne.true in
    first_false (bytes_eq (string_bytes c.in-Some.doc_ref.now) (string_bytes c.in-Some-next.other_ref.now))
    (same_map nat_eq (length_map c.in-Some.lengths.now.entries) (length_map c.in-Some-next.other.now.entries)) _
    keys ∙ decides

pub returns-then-not-same_lengths : goal.returns-then-not-same_lengths
returns-then-not-same_lengths c =
    let held = c.loop-doc_ref.invariant in
    let ours = ap (λ es. held.0 ++ es) (sym c.in-Some.ensures.steps) ∙ held.2 in
    let theirs = ap (λ es. held.1 ++ es) (sym c.in-Some-next.ensures.steps) ∙ held.3 in
    let decides = rest_decides (λ m. length_map m.entries) (λ p q. bytes_eq p.0 q.0 && same_map nat_eq p.1 q.1)
    c.args.a.now.entries c.args.b.now.entries held.0 held.1 ((c.in-Some.doc_ref.now, c.in-Some.lengths.now)
    ∷ c.next.new.self) ((c.in-Some-next.other_ref.now, c.in-Some-next.other.now)
    ∷ c.next-in-loop-doc_ref.new.self) c.iter-doc_ref-items.ensures.ordered c.iter-others.ensures.ordered ours
    theirs held.4 in
    let keys : bytes_eq (string_bytes c.in-Some.doc_ref.now) (string_bytes c.in-Some-next.other_ref.now)
    ≡ true = (λ i. bytes_eq (sym c.as_str.ensures.value i) (sym c.as_str-in-Some-next.ensures.value i))
    ∙ so _ _ c.ne.ensures c.if-ne.false in
    second_false (bytes_eq (string_bytes c.in-Some.doc_ref.now) (string_bytes c.in-Some-next.other_ref.now))
    (same_map nat_eq (length_map c.in-Some.lengths.now.entries) (length_map c.in-Some-next.other.now.entries)) _
    keys (sym c.same_lengths.ensures ∙ c.if-not-same_lengths.true) ∙ decides

pub loop-doc_ref-preserved : goal.loop-doc_ref-preserved
loop-doc_ref-preserved c =
    let held = c.loop-doc_ref.invariant in
    let ours = ap (λ es. held.0 ++ es) (sym c.in-Some.ensures.steps) ∙ held.2 in
    let theirs = ap (λ es. held.1 ++ es) (sym c.in-Some-next.ensures.steps) ∙ held.3 in
    let keys : bytes_eq (string_bytes c.in-Some.doc_ref.now) (string_bytes c.in-Some-next.other_ref.now)
    ≡ true = (λ i. bytes_eq (sym c.as_str.ensures.value i) (sym c.as_str-in-Some-next.ensures.value i))
    ∙ so _ _ c.ne.ensures c.if-ne.false in
    let values : same_map nat_eq (length_map c.in-Some.lengths.now.entries)
    (length_map c.in-Some-next.other.now.entries) ≡ true = sym c.same_lengths.ensures
    ∙ c.if-not-same_lengths.false in (
      held.0 ++ (c.in-Some.doc_ref.now, c.in-Some.lengths.now) ∷ [],
      held.1 ++ (c.in-Some-next.other_ref.now, c.in-Some-next.other.now) ∷ [],
      append_assoc held.0 _ c.next.new.self ∙ ours,
      append_assoc held.1 _ c.next-in-loop-doc_ref.new.self ∙ theirs,
      front (λ m. length_map m.entries) (λ p q. bytes_eq p.0 q.0 && same_map nat_eq p.1 q.1) held.0 held.1
          ((c.in-Some.doc_ref.now, c.in-Some.lengths.now) ∷ [])
          ((c.in-Some-next.other_ref.now, c.in-Some-next.other.now) ∷ []) held.4
          ∙ (λ i. (keys i && values i) && true),
    )

pub returns-in-None-next : goal.returns-in-None-next
returns-in-None-next c =
    let held = c.loop-doc_ref.invariant in
    let ours = ap (λ es. held.0 ++ es) (sym c.in-Some.ensures.steps) ∙ held.2 in
    let theirs = ap (λ es. held.1 ++ es) (sym c.in-None-next.ensures.steps.0) ∙ held.3 in
    rest_decides (λ m. length_map m.entries) (λ p q. bytes_eq p.0 q.0 && same_map nat_eq p.1 q.1) c.args.a.now.entries
    c.args.b.now.entries held.0 held.1 ((c.in-Some.doc_ref.now, c.in-Some.lengths.now) ∷ c.next.new.self) []
    c.iter-doc_ref-items.ensures.ordered c.iter-others.ensures.ordered ours theirs held.4

pub returns : goal.returns
returns c =
    let held = c.loop-doc_ref.invariant in
    let ours = ap (λ es. held.0 ++ es) (sym c.in-None.ensures.steps.0) ∙ held.2 in
    none_left (λ m. length_map m.entries) (λ p q. bytes_eq p.0 q.0 && same_map nat_eq p.1 q.1) (λ x. (x.0.now, x.1.now))
    c.is_none.result c.next-2.result c.loop-doc_ref.others c.next-2.new.self c.next-2.ensures.steps
    c.is_none.ensures
    ∙ rest_decides (λ m. length_map m.entries) (λ p q. bytes_eq p.0 q.0 && same_map nat_eq p.1 q.1) c.args.a.now.entries
    c.args.b.now.entries held.0 held.1 [] c.loop-doc_ref.others c.iter-doc_ref-items.ensures.ordered
    c.iter-others.ensures.ordered ours held.3 held.4
