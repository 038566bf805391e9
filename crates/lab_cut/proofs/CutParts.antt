-- What is cut out of a history is a part of it.
use Rattle.std.{proofs.{Common.{◌≡◌, ℕ, ℤ, Bool, true, false, cond, List, [], ◌∷◌, Option, Some, None, refl, sym, ap, ◌∙◌, subst}, lemmas.Option.{same_Some, none-some}}, specs.{Prelude.{option_map, option_and_then, unwrap_or, nat_eq, not, slice_get, length, ◌-◌}, Option.{option_eq}}}
use Rattle.std.specs.FinMap as map
use Rattle.lab_table.{specs.{Row.{Row, row_cmp}, Table.{State, Table, Writes, overwritten}}, proofs.Maps.{state_after, get-overwritten}}
use Rattle.lab_history.specs.{History.{History}, HistoryRules.{Keeps}, Version.{installers, ops_of, last_write}}
use Rattle.lab_cut.specs.PartOf.{IsSublist, HasState, initial, in_the_end, IsPartOf}
use Rattle.lab_cut.specs.Kept.{last_given, all_kept, last_left}
use Rattle.lab_cut.specs.Cut.{if_any, last_of_front, state_by, goes, staying, left_list, left_installed, last_staying, base, bases, left_initial, end_after, end_by, new_end, new_ends, left_end, cut}
use Rattle.lab_cut.specs.MadeEntries.{made_entries}
use Rattle.lab_cut.specs.declared.kept.Kept.{Kept}
use Rattle.lab_cut.proofs.{Sublists.{passing}, MadeEntries.{made_sorted, find_made}, NewNumbers.{LeadBack}, KeptTxns.{kept_of_each, given_leads_back}, CutTxns.{number, txns_back}, FoundStates.{state_had}}

-- a row has in made entries what is made of its own
pub get_made : {U V : Type 0} (make : Row → U → Option V) (m : map.FinMap row_cmp U) (row : Row)
    → map.get (map.from_sorted {R = row_cmp} (made_entries make (map.entries m))) row ≡ option_and_then (make row) (map.get m row)
get_made make m row =
    map.get-from_sorted row_cmp (made_entries make (map.entries m)) row (made_sorted make (map.entries m) (map.entries_sorted m))
    ∙ find_made make row (map.entries m) (map.entries_sorted m)
    ∙ ap (option_and_then (make row)) (sym (map.get-entries m row))

-- a row that is present after writes was so before, or is written so
after_writes : (writes : Writes) (table : Table) (row : Row) (value : ℤ) (P : Type 0) → (map.get table row ≡ Some value → P) → (map.get writes row ≡ Some (Some value) → P)
    → map.get (overwritten writes table) row ≡ Some value → P
after_writes writes table row value P before new e = at (map.get writes row) refl (sym (get-overwritten writes table row) ∙ e)
  where
    at : (o : Option State) → map.get writes row ≡ o → state_after o (map.get table row) ≡ Some value → P
    at None w e = before e
    at (Some s) w e = new (w ∙ ap Some e)

module _ (kept : ℕ → Option Kept) (h : History) where
  -- the installers that are left are some of a row's
  pub installers_left : (part : History) → part.installed ≡ left_installed kept h → (row : Row) → IsSublist (installers part row) (installers h row)
  installers_left part is row =
      let found : map.get part.installed row ≡ option_and_then (left_list kept h row) (map.get h.installed row) = ap (λ m. map.get m row) is ∙ get_made (left_list kept h) h.installed row in
      subst (λ o. IsSublist (unwrap_or o []) (installers h row)) (sym found) (at (map.get h.installed row))
    where
      some : (ns all : List ℕ) → IsSublist ns all → IsSublist (unwrap_or (if_any ns) []) all
      some [] all sub = tt
      some (n ∷ ns) all sub = sub

      at : (o : Option (List ℕ)) → IsSublist (unwrap_or (option_and_then (left_list kept h row) o) []) (unwrap_or o [])
      at None = tt
      at (Some ns) = some (staying kept h row ns) ns (passing (λ n. not (goes kept h row n)) ns)

  -- a row's new first state is one that it has
  pub initial_had : (row : Row) (value : ℤ) → map.get (left_initial kept h) row ≡ Some value → HasState h row (Some value)
  initial_had row value e = after_writes (bases kept h) h.initial row value (HasState h row (Some value)) initial based e
    where
      by_front : (o : Option ℕ) → option_map (λ n. state_by h row n (last_write (ops_of h n) row)) o ≡ Some (Some value) → HasState h row (Some value)
      by_front None e = absurd (none-some (Some value) e)
      by_front (Some n) e = state_had h row value n (last_write (ops_of h n) row) (same_Some (state_by h row n (last_write (ops_of h n) row)) (Some value) e)

      at : (o : Option (List ℕ)) → option_and_then (base kept h row) o ≡ Some (Some value) → HasState h row (Some value)
      at None e = absurd (none-some (Some value) e)
      at (Some ns) e = by_front (last_of_front (goes kept h row) None ns) e

      based : map.get (bases kept h) row ≡ Some (Some value) → HasState h row (Some value)
      based e = at (map.get h.installed row) (sym (get_made (base kept h) h.installed row) ∙ e)

  -- and so is its new last one
  pub end_had : (row : Row) (value : ℤ) → map.get (left_end kept h) row ≡ Some value → HasState h row (Some value)
  end_had row value e = after_writes (new_ends kept h) h.end_table row value (HasState h row (Some value)) in_the_end new e
    where
      after : (o : Option ℕ) → end_after kept h row o ≡ Some value → HasState h row (Some value)
      after None e = initial_had row value e
      after (Some n) e = state_had h row value n (last_left kept n row) e

      unless : (b : Bool) (o : Option ℕ) → cond b None (Some (end_after kept h row o)) ≡ Some (Some value) → HasState h row (Some value)
      unless true o e = absurd (none-some (Some value) e)
      unless false o e = after o (same_Some (end_after kept h row o) (Some value) e)

      by_last : (ns : List ℕ) (o : Option ℕ) → end_by kept h row ns o ≡ Some (Some value) → HasState h row (Some value)
      by_last ns None e = absurd (none-some (Some value) e)
      by_last ns (Some n) e = unless (option_eq nat_eq (last_left kept n row) (last_write (ops_of h n) row)) (last_staying kept h row None ns) e

      at : (o : Option (List ℕ)) → option_and_then (new_end kept h row) o ≡ Some (Some value) → HasState h row (Some value)
      at None e = absurd (none-some (Some value) e)
      at (Some ns) e = by_last ns (slice_get ns (length ns - 1)) e

      new : map.get (new_ends kept h) row ≡ Some (Some value) → HasState h row (Some value)
      new e = at (map.get h.installed row) (sym (get_made (new_end kept h) h.installed row) ∙ e)

-- nothing is given at first
none_leads : (mask : List Bool) (h : History) (n : ℕ) (own : Kept) → last_given None (all_kept mask h.txns) n ≡ Some own → LeadBack own.numbers
none_leads mask h n own e = given_leads_back mask h.txns n None (λ some none. absurd (none-some some none)) own e

pub cut_part : (mask : List Bool) (h : History) → Keeps h → IsPartOf (cut mask h) h
cut_part mask h keeps =
    let kept = λ (n : ℕ). last_given None (all_kept mask h.txns) n in
    record {
      number = number kept (none_leads mask h);
      txns = txns_back kept (none_leads mask h) mask h.txns (kept_of_each (λ n. None) mask h.txns keeps.distinct);
      installed = installers_left kept h (cut mask h) refl;
      initial = initial_had kept h;
      ends = end_had kept h;
    }
