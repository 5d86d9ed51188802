-- In fields that are alike the same is ranked.
use Rattle.std.proofs.Common.{◌≡◌, List, [], ◌∷◌, sym, subst, ◌∙◌}
use Rattle.std.specs.Float.{Float}
use Rattle.std.specs.List.{AllZip}
use Rattle.elasticlunr_error.specs.Text.{Text, Bytes}
use Rattle.elasticlunr_ranking.specs.Fields.{Field}
use Rattle.elasticlunr_ranking.specs.Order.{AreRanked}
use Rattle.elasticlunr_store.specs.Contents.{field_length}
use Rattle.elasticlunr_piece_laws.specs.Alike.{AreAlike, CanStandFor}
use Rattle.elasticlunr_piece_laws.proofs.Alike.{all_looked_up, same_total}

alike_back : (tokens : List Text) (f g : Field) → AreAlike tokens f g → AreAlike tokens g f
alike_back tokens f g alike = record {
  name = sym alike.name;
  join = sym alike.join;
  expand = sym alike.expand;
  boost = sym alike.boost;
  documents = sym alike.documents;
  lengths = λ r. subst (λ name. field_length g.contents r name ≡ field_length f.contents r name) alike.name
      (sym (alike.lengths r));
  same_postings = λ token word asked stands. sym (alike.same_postings token word asked
      (subst (λ e. CanStandFor e token word) (sym alike.expand) stands));
}

all_back : (tokens : List Text) (fs gs : List Field) → AllZip (AreAlike tokens) fs gs → AllZip (AreAlike tokens) gs fs
all_back tokens [] [] all = tt
all_back tokens [] (g ∷ gs) all = absurd all
all_back tokens (f ∷ fs) [] all = absurd all
all_back tokens (f ∷ fs) (g ∷ gs) all = (alike_back tokens f g all.0, all_back tokens fs gs all.1)

one_way : (tokens : List Text) (fields others : List Field) (hits : List (Bytes × Float))
    → AllZip (AreAlike tokens) fields others → AreRanked fields tokens hits → AreRanked others tokens hits
one_way tokens fields others hits alike ranked =
    let new = all_looked_up tokens fields others ranked.looked_up alike ranked.of_fields in
    record {
      looked_up = new.all;
      of_fields = new.are;
      scores = ranked.scores;
      are = record {
        in_order = ranked.are.in_order;
        are = λ r. ranked.are.are r ∙ same_total tokens ranked.looked_up others new r;
      };
      each = ranked.each;
      in_order = ranked.in_order;
    }

pub rank_alike : (tokens : List Text) (fields others : List Field) (hits : List (Bytes × Float))
    → AllZip (AreAlike tokens) fields others
    → (AreRanked fields tokens hits → AreRanked others tokens hits)
    × (AreRanked others tokens hits → AreRanked fields tokens hits)
rank_alike tokens fields others hits alike = (
  one_way tokens fields others hits alike,
  one_way tokens others fields hits (all_back tokens fields others alike),
)
