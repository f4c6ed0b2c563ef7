use Rattle.std.proofs.Common.{◌≡◌, refl, sym, ap, ◌∙◌, List, [], ◌∷◌, ◌++◌, append_assoc, Option, Some, None}
use Rattle.std.specs.List.{filter_map}
use Rattle.s3_listings.specs.Rolled.{prefix_in, row_in}
use Rattle.s3_listings.proofs.row_page.parted.Goals as goal

module _ {X Y : Type 0} (f : X → Option Y) (taken : List Y) (item : X) (left rest : List X) (whole : List Y) (cut : left ≡ item ∷ rest)
    (known : taken ++ filter_map f left ≡ whole) where
  -- what the item gives is taken
  moved : (y : Y) (after : List Y) → f item ≡ Some y → after ≡ taken ++ y ∷ [] → after ++ filter_map f rest ≡ whole
  moved y after is more =
      let first : filter_map f (item ∷ rest) ≡ y ∷ filter_map f rest = rw is refl in
      let here : filter_map f left ≡ y ∷ filter_map f rest = ap (filter_map f) cut ∙ first in
      ap (λ (l : List Y). l ++ filter_map f rest) more ∙ append_assoc taken (y ∷ []) (filter_map f rest) ∙ ap (λ (l : List Y). taken ++ l) (sym here) ∙ known

  -- it gives nothing
  passed : f item ≡ None → taken ++ filter_map f rest ≡ whole
  passed is =
      let first : filter_map f (item ∷ rest) ≡ filter_map f rest = rw is refl in
      let here : filter_map f left ≡ filter_map f rest = ap (filter_map f) cut ∙ first in
      ap (λ (l : List Y). taken ++ l) (sym here) ∙ known

pub loop-item-preserved-in-Continue-1 : goal.loop-item-preserved-in-Continue-1
loop-item-preserved-in-Continue-1 g c = record {
  rows =
      moved row_in c.loop-item.rows.items c.in-Some.item _ c.next.new.self.rest.items _ c.in-Some.ensures.steps.0 c.loop-item.invariant.rows
      c.in-Row.row c.push.new.self.items (ap row_in c.in-Row.is) c.in_ok-push-in-Row.ensures.items;
  prefixes =
      passed prefix_in c.loop-item.prefixes.items c.in-Some.item _ c.next.new.self.rest.items _ c.in-Some.ensures.steps.0 c.loop-item.invariant.prefixes
      (ap prefix_in c.in-Row.is);
}

pub loop-item-preserved : goal.loop-item-preserved
loop-item-preserved g c = record {
  rows =
      passed row_in c.loop-item.rows.items c.in-Some.item _ c.next.new.self.rest.items _ c.in-Some.ensures.steps.0 c.loop-item.invariant.rows
      (ap row_in c.in-CommonPrefix.is);
  prefixes =
      moved prefix_in c.loop-item.prefixes.items c.in-Some.item _ c.next.new.self.rest.items _ c.in-Some.ensures.steps.0 c.loop-item.invariant.prefixes
      c.in-CommonPrefix.prefix c.push-in-CommonPrefix.new.self.items (ap prefix_in c.in-CommonPrefix.is) c.in_ok-push-in-CommonPrefix.ensures.items;
}
