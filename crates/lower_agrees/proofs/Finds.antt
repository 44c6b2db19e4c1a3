-- The graph of a function has each block that begins among its items.
use Rattle.std.proofs.Common.{◌≡◌, refl, sym, ap, subst, ◌∙◌, ℕ, List, [], ◌∷◌, ◌++◌, Option, Some}
use Rattle.flow_graph.specs.Graph.{Graph}
use Rattle.c_lower.specs.Items.{Name, Close, Item, items_of, gives_number}
use Rattle.c_lower.specs.Lowered.{Named, opened, shut, block_of, named_blocks}
use Rattle.flow_graph.specs.WalkRun.{block_at}
use Rattle.c_lower.proofs.NameLaws.{found_by_number}
use Rattle.lower_agrees.proofs.Runs.{Site, Placed, Found, Stands, header, number, left}

-- one block more in front
pub one_more : (front : List Named) (b : Named) (rest : List Named) → front ++ b ∷ rest ≡ (front ++ b ∷ []) ++ rest
one_more [] b rest = refl
one_more (f ∷ front) b rest = ap (λ (l : List Named). f ∷ l) (one_more front b rest)

module _ (x : Site) (stands : Stands x) where
  -- a block of the function stands at the number of its name
  found : (l : Name) (line : Option ℕ) (is : List Item) (front : List Named)
      → named_blocks x.text ≡ front ++ header x l line is ∷ (left x is).later
      → Found x l line is
  found l line is front e =
      subst (λ (g : Option Graph). block_at g (number x l) ≡ Some (block_of (number x) (header x l line is)))
      (sym stands)
      (found_by_number x.text front (header x l line is) (left x is).later l e refl)

  mutual
    opened_placed : (is : List Item) (front : List Named) → named_blocks x.text ≡ front ++
        (opened (gives_number x.text.result) is).later → Placed x is
    opened_placed [] front e = tt
    opened_placed (Item.Begin l line ∷ is) front e = (
      found l line is front e,
      opened_placed is (front ++ header x l line is ∷ [])
          (e ∙ one_more front (header x l line is) _),
    )
    opened_placed (Item.Do o line ∷ is) front e = opened_placed is front e
    opened_placed (Item.End c line ∷ is) front e = shut_placed is front e

    shut_placed : (is : List Item) (front : List Named) → named_blocks x.text ≡ front ++ shut
        (gives_number x.text.result) is → Placed x is
    shut_placed [] front e = tt
    shut_placed (Item.Begin l line ∷ is) front e = (
      found l line is front e,
      opened_placed is (front ++ header x l line is ∷ [])
          (e ∙ one_more front (header x l line is) _),
    )
    shut_placed (Item.Do o line ∷ is) front e = opened_placed is (front ++ _ ∷ []) (e ∙ one_more front _ _)
    shut_placed (Item.End (Close.Jump l) line ∷ is) front e = shut_placed is front e
    shut_placed (Item.End (Close.Back l) line ∷ is) front e = shut_placed is front e
    shut_placed (Item.End c line ∷ is) front e = shut_placed is (front ++ _ ∷ []) (e ∙ one_more front _ _)

  -- Each block that begins among a function's items is in its graph.
  pub all_placed : Placed x (items_of x.text)
  all_placed = opened_placed (items_of x.text) (_ ∷ []) refl
