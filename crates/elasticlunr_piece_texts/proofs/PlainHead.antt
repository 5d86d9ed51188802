-- The value of the head is plain and flat, with numbers of 64 bits.
use Rattle.std.proofs.Common.{◌≡◌, ◌≤◌, ℕ, suc, List, [], ◌∷◌, Option, Some, None, IfSome, refl, arith}
use Rattle.std.proofs.Common.{option_and_then}
use Rattle.std.proofs.Math.Nat.{max-le}
use Rattle.std.specs.FinMap.{get}
use Rattle.std.specs.List.{AllByRecursion}
use Rattle.serde_json.specs.Data.{array, object, depth, items_depth, members_depth}
use Rattle.serde_json.specs.Read.{read}
use Rattle.serde_json.specs.Written.{compact_text}
use Rattle.elasticlunr_commands.specs.Standing.{Plan}
use Rattle.elasticlunr_error.specs.Text.{Bytes}
use Rattle.elasticlunr_json.specs.Texts.{HasIntegers, ItemsHaveIntegers, MembersHaveIntegers}
use Rattle.elasticlunr_print.specs.Printed as print
use Rattle.elasticlunr_print.proofs.Plain.{IsPlain, ArePlainItems, ArePlain}
use Rattle.elasticlunr_pieces.specs.Head.{Beginnings, all_lengths, counts, field_lengths, head_members, head_value}
use Rattle.elasticlunr_pieces.specs.Head.{length_value}
use Rattle.elasticlunr_store.specs.Contents.{Contents, IsContents, LengthMap, MapsTextsTo, length_at}
use Rattle.elasticlunr_trie.specs.Tree.{HasKeysInOrder}
use Rattle.elasticlunr_piece_texts.specs.Texts.{IsSmall}
use Rattle.elasticlunr_piece_texts.proofs.ReadTexts.{text_read}

texts_plain : (ts : List Bytes) → ArePlainItems (print.texts ts)
texts_plain [] = tt
texts_plain (t ∷ ts) = (tt, texts_plain ts)

texts_small : (ts : List Bytes) → ItemsHaveIntegers (print.texts ts)
texts_small [] = tt
texts_small (t ∷ ts) = (tt, texts_small ts)

texts_flat : (ts : List Bytes) → items_depth (print.texts ts) ≤ 0
texts_flat [] = omega arith
texts_flat (t ∷ ts) = let low : 0 ≤ 0 = omega arith in max-le low (texts_flat ts)

counts_plain : (ns : List ℕ) → ArePlainItems (counts ns)
counts_plain [] = tt
counts_plain (n ∷ ns) = (tt, counts_plain ns)

counts_small : (ns : List ℕ) → AllByRecursion IsSmall ns → ItemsHaveIntegers (counts ns)
counts_small [] small = tt
counts_small (n ∷ ns) small = (small.0, counts_small ns small.1)

counts_flat : (ns : List ℕ) → items_depth (counts ns) ≤ 0
counts_flat [] = omega arith
counts_flat (n ∷ ns) = let low : 0 ≤ 0 = omega arith in max-le low (counts_flat ns)

length_plain : (o : Option ℕ) → IsPlain (length_value o)
length_plain None = tt
length_plain (Some n) = tt

length_small : (o : Option ℕ) → IfSome o IsSmall → HasIntegers (length_value o)
length_small None small = tt
length_small (Some n) small = small

length_flat : (o : Option ℕ) → depth (length_value o) ≤ 0
length_flat None = omega arith
length_flat (Some n) = omega arith

of_map : (field : Bytes) (o : Option LengthMap) → IfSome o (MapsTextsTo IsSmall)
    → IfSome (option_and_then (λ lengths. get lengths field) o) IsSmall
of_map field None small = tt
of_map field (Some lengths) small = small.values field

listed : (ts : List Bytes) → suc (items_depth (print.texts ts)) ≤ 2
listed ts = let flat = texts_flat ts in omega (arith, flat)

counted : (ns : List ℕ) → suc (items_depth (counts ns)) ≤ 2
counted ns = let flat = counts_flat ns in omega (arith, flat)

module _ (contents : Contents) (are : IsContents contents) where
  lengths_plain : (field : Bytes) (names : List Bytes) → ArePlainItems (field_lengths contents field names)
  lengths_plain field [] = tt
  lengths_plain field (r ∷ rs) = (length_plain (length_at contents r field), lengths_plain field rs)

  lengths_small : (field : Bytes) (names : List Bytes) → ItemsHaveIntegers (field_lengths contents field names)
  lengths_small field [] = tt
  lengths_small field (r ∷ rs) = (
    length_small (length_at contents r field) (of_map field (get contents.lengths r) (are.lengths.values r)),
    lengths_small field rs,
  )

  lengths_flat : (field : Bytes) (names : List Bytes) → items_depth (field_lengths contents field names) ≤ 0
  lengths_flat field [] = omega arith
  lengths_flat field (r ∷ rs) = max-le (length_flat (length_at contents r field)) (lengths_flat field rs)

  all_plain : (fields names : List Bytes) → ArePlainItems (all_lengths contents fields names)
  all_plain [] names = tt
  all_plain (f ∷ fs) names = (lengths_plain f names, all_plain fs names)

  all_small : (fields names : List Bytes) → ItemsHaveIntegers (all_lengths contents fields names)
  all_small [] names = tt
  all_small (f ∷ fs) names = (lengths_small f names, all_small fs names)

  all_flat : (fields names : List Bytes) → items_depth (all_lengths contents fields names) ≤ 1
  all_flat [] names = omega arith
  all_flat (f ∷ fs) names =
      let flat = lengths_flat f names in
      let here : suc (items_depth (field_lengths contents f names)) ≤ 1 = omega (arith, flat) in
      max-le here (all_flat fs names)

  module _ (plan : Plan) (names : List Bytes) (b : Beginnings) where
    in_order : HasKeysInOrder (head_members plan names (all_lengths contents plan.fields names) b)
    in_order = (
      (refl, (refl, (refl, (refl, (refl, (refl, (refl, (refl, (refl, (refl, (refl, (refl, (refl, tt))))))))))))),
      (
        (refl, (refl, (refl, (refl, (refl, (refl, (refl, (refl, (refl, (refl, (refl, (refl, tt)))))))))))),
        (
          (
            refl,
            (refl, (refl, (refl, (refl, (refl, (refl, (refl, (refl, (refl, (refl, tt)))))))))),
          ),
          (
            (
              refl,
              (
                refl,
                (
                  refl,
                  (refl, (refl, (refl, (refl, (refl, (refl, (refl, tt))))))),
                ),
              ),
            ),
            (
              (
                refl,
                (
                  refl,
                  (
                    refl,
                    (
                      refl,
                      (
                        refl,
                        (
                          refl,
                          (refl, (refl, (refl, tt))),
                        ),
                      ),
                    ),
                  ),
                ),
              ),
              (
                (refl, (refl, (refl, (refl, (refl, (refl, (refl, (refl, tt)))))))),
                (
                  (
                    refl,
                    (refl, (refl, (refl, (refl, (refl, (refl, tt)))))),
                  ),
                  (
                    (refl, (refl, (refl, (refl, (refl, (refl, tt)))))),
                    (
                      (refl, (refl, (refl, (refl, (refl, tt))))),
                      (
                        (refl, (refl, (refl, (refl, tt)))),
                        (
                          (refl, (refl, (refl, tt))),
                          ((refl, (refl, tt)), ((refl, tt), (tt, tt))),
                        ),
                      ),
                    ),
                  ),
                ),
              ),
            ),
          ),
        ),
      ),
    )

    plain : ArePlain (head_members plan names (all_lengths contents plan.fields names) b)
    plain = (
      texts_plain plan.fields,
      (
        tt,
        (
          tt,
          (
            all_plain plan.fields names,
            (
              texts_plain plan.stages,
              (
                tt,
                (
                  texts_plain
                      names,
                  (
                    tt,
                    (
                      counts_plain b.sizes,
                      (
                        counts_plain b.texts,
                        (
                          tt,
                          (
                            counts_plain b.titles,
                            (
                              texts_plain b.tries,
                              (tt, tt),
                            ),
                          ),
                        ),
                      ),
                    ),
                  ),
                ),
              ),
            ),
          ),
        ),
      ),
    )

    small : AllByRecursion IsSmall b.sizes → AllByRecursion IsSmall b.texts → AllByRecursion IsSmall b.titles
        → MembersHaveIntegers (head_members plan names (all_lengths contents plan.fields names) b)
    small sizes texts titles = (
      texts_small plan.fields,
      (
        tt,
        (
          tt,
          (
            all_small plan.fields names,
            (
              texts_small plan.stages,
              (
                tt,
                (
                  texts_small
                      names,
                  (
                    tt,
                    (
                      counts_small b.sizes sizes,
                      (
                        counts_small b.texts texts,
                        (
                          tt,
                          (
                            counts_small b.titles titles,
                            (texts_small b.tries, (tt, tt)),
                          ),
                        ),
                      ),
                    ),
                  ),
                ),
              ),
            ),
          ),
        ),
      ),
    )

    flat : members_depth (head_members plan names (all_lengths contents plan.fields names) b) ≤ 2
    flat =
        let low : 0 ≤ 2 = omega arith in
        let lengths = all_flat plan.fields names in
        let columns : suc (items_depth (all_lengths contents plan.fields names)) ≤ 2 = omega (arith, lengths) in
        max-le (listed plan.fields) (max-le low (max-le low (max-le columns (max-le (listed plan.stages)
        (max-le low (max-le (listed names) (max-le low (max-le (counted b.sizes) (max-le (counted b.texts) (max-le low
        (max-le (counted b.titles) (max-le (listed b.tries) (max-le low low)))))))))))))

    -- the text of the head is read as its value
    pub head_read : AllByRecursion IsSmall b.sizes → AllByRecursion IsSmall b.texts → AllByRecursion IsSmall b.titles
        → read (compact_text (head_value plan contents names b)) ≡ Some (head_value plan contents names b)
    head_read sizes texts titles =
        let most = flat in
        let deep : suc (members_depth (head_members plan names (all_lengths contents plan.fields names) b)) ≤ 127 =
        omega (arith, most) in
        text_read (head_value plan contents names b) (in_order, plain) (small sizes texts titles) deep
