-- A nickname's test finds the form that the nickname is for.
use Rattle.std.{proofs.{Common.{◌≡◌, true, List, arith, refl}, lemmas.List.Elements.{All-contains}}, specs.Prelude.{Contains}}
use Rattle.std.proofs.lemmas.List.Elements.{filter_passes}
use Rattle.lab_history.specs.History.{History}
use Rattle.lab_deps.specs.declared.edge.Edge.{Edge}
use Rattle.lab_drawing.specs.Anomalies.{HasForm}
use Rattle.lab_drawing.specs.Nicknames.{all_nicknames, has_form, nicknames_of}
use Rattle.lab_drawing.specs.declared.nicknames.Nickname.{Nickname, TheVariants.{LostUpdate, ReadSkew, FuzzyRead, WriteSkew, LongFork, ReadOnlyAnomaly, Phantom}}
use Rattle.lab_drawing.proofs.{Orderables.{kept}, PairForms.{lost_update_so, so_lost_update, read_skew_so, so_read_skew, fuzzy_read_so, so_fuzzy_read, skewed_so, so_skewed}, ForkForms.{long_fork_so, so_long_fork, phantom_so, so_phantom}, ReaderForms.{read_only_anomaly_so, so_read_only_anomaly}}

-- each nickname's test finds its form
form_so : (h : History) (walk : List Edge) (n : Nickname) → has_form h walk n ≡ true → HasForm h walk n
form_so h walk LostUpdate is = lost_update_so h walk is
form_so h walk ReadSkew is = read_skew_so h walk is
form_so h walk FuzzyRead is = fuzzy_read_so h walk is
form_so h walk WriteSkew is = skewed_so h walk is
form_so h walk LongFork is = long_fork_so h walk is
form_so h walk ReadOnlyAnomaly is = read_only_anomaly_so h walk is
form_so h walk Phantom is = phantom_so h walk is

so_form : (h : History) (walk : List Edge) (n : Nickname) → HasForm h walk n → has_form h walk n ≡ true
so_form h walk LostUpdate is = so_lost_update h walk is
so_form h walk ReadSkew is = so_read_skew h walk is
so_form h walk FuzzyRead is = so_fuzzy_read h walk is
so_form h walk WriteSkew is = so_skewed h walk is
so_form h walk LongFork is = so_long_fork h walk is
so_form h walk ReadOnlyAnomaly is = so_read_only_anomaly h walk is
so_form h walk Phantom is = so_phantom h walk is

-- each nickname is one of all
among_all : (n : Nickname) → Contains all_nicknames n
among_all LostUpdate = (0, omega arith, refl)
among_all ReadSkew = (1, omega arith, refl)
among_all FuzzyRead = (2, omega arith, refl)
among_all WriteSkew = (3, omega arith, refl)
among_all LongFork = (4, omega arith, refl)
among_all ReadOnlyAnomaly = (5, omega arith, refl)
among_all Phantom = (6, omega arith, refl)

-- a nickname that is said is one whose form the cycle has
pub is_form : (h : History) (walk : List Edge) (n : Nickname) → Contains (nicknames_of h walk) n → HasForm h walk n
is_form h walk n there = form_so h walk n (All-contains (λ m. has_form h walk m ≡ true) (nicknames_of h walk) n (filter_passes (has_form h walk) all_nicknames) there)

-- and each such one is said
pub is_said : (h : History) (walk : List Edge) (n : Nickname) → HasForm h walk n → Contains (nicknames_of h walk) n
is_said h walk n form = kept (has_form h walk) all_nicknames n (among_all n) (so_form h walk n form)
