-- The checks of a page, once its directory is found, and what they give of its listing.
use Rattle.std.proofs.Common.{◌≡◌, ℕ, zero, suc, ◌-◌, ◌==◌, Bool, true, false, not, ◌&&◌, ◌||◌, if◌then◌else◌}
use Rattle.std.proofs.Common.{nat_lt, List}
use Rattle.std.proofs.Common.{length, map, Result, Ok, Err, refl, sym, ◌∙◌, ap, subst, arith}
use Rattle.std.proofs.lemmas.Bool.{eqb-true, lt-ltb, ne_eqb}
use Rattle.std.proofs.lemmas.List.{length-map}
use Rattle.nfs3_types.specs.declared.args.ReadDirArgs.{ReadDirArgs}
use Rattle.nfs3_types.specs.declared.cred.Cred.{Cred}
use Rattle.nfs3_types.specs.declared.status.Status.{Status}
use Rattle.nfs3_types.specs.declared.status.Status.TheVariants.{Acces, BadCookie, NotDir, TooSmall}
use Rattle.pair_types.specs.declared.fault.PairFault.{PairFault}
use Rattle.pairs.specs.Told.{PairsTold, Goes}
use Rattle.fs_rules.specs.declared.inode.Inode.{Inode as Kept}
use Rattle.fs_rules.specs.declared.place.Place.{Place}
use Rattle.fs_rules.specs.Attributes.{is_directory}
use Rattle.fs_rules.specs.Checks.{Check, ◌>>=◌, need, refuse_if, find_object}
use Rattle.fs_rules.specs.Listing.{Listed, Page as PageOf, bare_size, behind, fitting, is_zeros, limit, listing, page}
use Rattle.fs_rules.specs.Listing.{page_behind, page_of}
use Rattle.fs_rules.specs.Places.{Object, above}
use Rattle.fs_rules.specs.Rights.{may_read}
use Rattle.fs_rules.specs.Sound.{IsSound}
use Rattle.fs_rules.specs.Tree.{Tree}
use Rattle.fs_shows.specs.declared.halt.Halt.TheVariants.{Refused}
use Rattle.fs_shows.specs.Steps.{Reads, GivesUpOn}
use Rattle.fs_keys.specs.declared.rows.First.{First}
use Rattle.fs_shows.specs.Shows.{first_of}
use Rattle.procs_object.specs.declared.object.Begun.{Begun}
use Rattle.procs_object.specs.declared.object.Found.{Found}
use Rattle.procs_object.specs.Finding.{HasPlace, IsBegun, IsObject, CheckedOn}
use Rattle.procs_object.proofs.Gathering.{gathers, gathers-up}
use Rattle.procs_object.proofs.Reading.{reads-more}
use Rattle.procs_object.proofs.Snapshots.{has-found}
use Rattle.procs_object.proofs.Told.{object-place, object-inode}
use Rattle.procs_listing.specs.declared.fitting.Listing.{Listing}
use Rattle.procs_listing.specs.declared.paging.Page.{Page}
use Rattle.procs_listing.specs.Entries.{listed_as, lists, IsTold}
use Rattle.procs_listing.specs.Paging.{room_for, page_by, IsPage}

-- ---- the checks

unfoldable pub paged : Object → List Listed → List Listed → Check PageOf
paged o left told =
    refuse_if (nat_lt 0 (length left) && (length told == 0)) TooSmall
    >>= (λ _. Ok (record { directory = o; told = told; eof = length told == length left }))

-- a page by the room that its directory's inode gives it
page-by-room : (t : Tree) (cred : Cred) (size : Listed → ℕ) (a : ReadDirArgs (List ℕ)) (o : Object)
    → find_object t a.directory ≡ Ok o
    → page t cred size a
    ≡ (room_for o.inode cred a.cookie a.verifier a.count >>= (λ room.
    paged o (behind a.cookie (listing t o)) (fitting size room (behind a.cookie (listing t o)))))
unfolding page page_behind page_of room_for paged
page-by-room t cred size a o found =
    ap (λ (c : Check Object). c >>= next) found
    ∙ by_tests (is_directory o.inode.kind) (may_read cred o.inode) ((a.cookie == 0) || is_zeros a.verifier)
    (nat_lt (limit a.count) bare_size)
  where
    next : Object → Check PageOf
    next = λ o. need (is_directory o.inode.kind) NotDir
        >>= (λ _. need (may_read cred o.inode) Acces
        >>= (λ _. need ((a.cookie == 0) || is_zeros a.verifier) BadCookie
        >>= (λ _. page_behind o size a.count (behind a.cookie (listing t o)))))

    left : List Listed
    left = behind a.cookie (listing t o)

    told : List Listed
    told = fitting size (limit a.count - bare_size) left

    by_tests : (d r v s : Bool)
        → (need d NotDir >>= (λ _. need r Acces >>= (λ _. need v BadCookie >>= (λ _.
        refuse_if (s || (nat_lt 0 (length left) && (length told == 0))) TooSmall
        >>= (λ _. Ok (record { directory = o; told = told; eof = length told == length left }))))))
        ≡ ((need d NotDir >>= (λ _. need r Acces >>= (λ _. need v BadCookie >>= (λ _. refuse_if s TooSmall
        >>= (λ _. Ok (limit a.count - bare_size)))))) >>= (λ room. paged o left (fitting size room left)))
    by_tests false r v s = refl
    by_tests true false v s = refl
    by_tests true true false s = refl
    by_tests true true true true = refl
    by_tests true true true false = refl

-- ---- with what was found

module _ (t : Tree) (cred : Cred) (size : Listed → ℕ) (a : ReadDirArgs (List ℕ)) where
  pub page-unfound : (status : Status) → find_object t a.directory ≡ Err status → page t cred size a ≡ Err status
  unfolding page
  page-unfound status refused =
      ap (λ (c : Check Object). c >>= (λ o. need (is_directory o.inode.kind) NotDir
      >>= (λ _. need (may_read cred o.inode) Acces
      >>= (λ _. need ((a.cookie == 0) || is_zeros a.verifier) BadCookie
      >>= (λ _. page_behind o size a.count (behind a.cookie (listing t o))))))) refused

  module _ (x : Found) (o : Object) (found : find_object t a.directory ≡ Ok o) (is : IsObject t x o) where
    page-by : (r : Check ℕ) → r ≡ room_for x.inode.head.kept cred a.cookie a.verifier a.count
        → page t cred size a
        ≡ (r >>= (λ room. paged o (behind a.cookie (listing t o)) (fitting size room (behind a.cookie (listing t o)))))
    page-by r gives =
        page-by-room t cred size a o found
        ∙ ap (λ (r : Check ℕ). r >>= (λ room. paged o (behind a.cookie (listing t o))
        (fitting size room (behind a.cookie (listing t o)))))
        (ap (λ (i : Kept). room_for i cred a.cookie a.verifier a.count) (object-inode t x o is) ∙ sym gives)

    pub page-refused : (status : Status) → Err status ≡ room_for x.inode.head.kept cred a.cookie a.verifier a.count
        → page t cred size a ≡ Err status
    page-refused status gives = page-by (Err status) gives

    module _ (room : ℕ) (gives : Ok room ≡ room_for x.inode.head.kept cred a.cookie a.verifier a.count) (upper : Place)
        (upper-is : upper ≡ above x.place x.inode.head.kept) where
      -- the table lists what was listed
      listing-is : listing t o ≡ lists t x.place upper
      unfolding listing
      listing-is =
          ap (λ (p : Place). listing t (record { place = p; inode = o.inode; size = o.size })) (object-place t x o is)
          ∙ ap (λ (i : Kept). listing t (record { place = x.place; inode = i; size = o.size })) (object-inode t x o is)
          ∙ ap (λ (p : Place). lists t x.place p) (sym upper-is)

      module _ (begins : First) (first : first_of t ≡ begins) (l : Listing)
          (told : IsTold size room a.cookie (lists t x.place upper) l) where
        abbrev left : List Listed
        left = behind a.cookie (listing t o)

        left-is : left ≡ behind a.cookie (lists t x.place upper)
        left-is = ap (behind a.cookie) listing-is

        told-is : fitting size room left ≡ map listed_as l.entries
        told-is = ap (fitting size room) left-is ∙ told.told

        eof-is : (length (map listed_as l.entries) == length left) ≡ l.eof
        eof-is =
            ap (λ (n : ℕ). n == length left) (length-map l.entries listed_as)
            ∙ ap (λ (ls : List Listed). length l.entries == length ls) left-is ∙ told.eof

        page-as : page t cred size a ≡ paged o left (map listed_as l.entries)
        unfolding paged
        page-as = page-by (Ok room) gives ∙ ap (paged o left) told-is

        -- nothing is told of something just where no entry is there, and it is not all
        small-is : (nat_lt 0 (length left) && (length (map listed_as l.entries) == 0)) ≡ ((length l.entries == 0) && not l.eof)
        small-is =
            ap (λ (n : ℕ). nat_lt 0 (length left) && (n == 0)) (length-map l.entries listed_as)
            ∙ by_none (length l.entries) (length left)
            ∙ ap (λ (b : Bool). (length l.entries == 0) && not b)
            (ap (λ (n : ℕ). n == length left) (sym (length-map l.entries listed_as)) ∙ eof-is)
          where
            and-true : (b : Bool) → (b && true) ≡ b
            and-true true = refl
            and-true false = refl

            and-false : (b : Bool) → (b && false) ≡ false
            and-false true = refl
            and-false false = refl

            some-left : (n : ℕ) → nat_lt 0 n ≡ not (0 == n)
            some-left zero = refl
            some-left (suc n) =
                lt-ltb 0 (suc n) (omega arith) ∙ sym (ap (λ (b : Bool). not b)
                (ne_eqb 0 (suc n) (λ e. absurd (omega (arith, e)))))

            by_test : (m n : ℕ) (u : Bool) → (m == 0) ≡ u → (nat_lt 0 n && u) ≡ (u && not (m == n))
            by_test m n true at =
                and-true (nat_lt 0 n) ∙ some-left n ∙ ap (λ (k : ℕ). not (k == n)) (sym (eqb-true m 0 at))
            by_test m n false at = and-false (nat_lt 0 n)

            by_none : (m n : ℕ) → (nat_lt 0 n && (m == 0)) ≡ ((m == 0) && not (m == n))
            by_none m n = by_test m n (m == 0) refl

        pub page-small : ((length l.entries == 0) && not l.eof) ≡ true → page t cred size a ≡ Err TooSmall
        unfolding paged
        page-small small =
            page-as
            ∙ ap (λ (b : Bool). refuse_if b TooSmall >>= (λ _. Ok (record {
              directory = o;
              told = map listed_as l.entries;
              eof = length (map listed_as l.entries) == length left;
            }))) (small-is ∙ small)

        pub page-told : ((length l.entries == 0) && not l.eof) ≡ false
            → (p : PageOf) × (page t cred size a ≡ Ok p) × IsPage t (record { begins = begins; attributes = x.attributes; listing = l }) p
        unfolding paged
        page-told some = (
          record { directory = o; told = map listed_as l.entries; eof = length (map listed_as l.entries) == length left },
          page-as
              ∙ ap (λ (b : Bool). refuse_if b TooSmall >>= (λ _. Ok (record {
                directory = o;
                told = map listed_as l.entries;
                eof = length (map listed_as l.entries) == length left;
              }))) (small-is ∙ some),
          record {
            attributes_are = is.attributes;
            first = first;
            told = refl;
            eof = eof-is;
          },
        )

        -- what the page's end says
        abbrev Ends : Result Page Status → Type 0
        Ends (Ok y) = (p : PageOf) × (page t cred size a ≡ Ok p) × IsPage t y p
        Ends (Err status) = page t cred size a ≡ Err status

        pub page-ends : (r : Result Page Status) → r ≡ page_by begins x.attributes l → Ends r
        page-ends r is = subst Ends (sym is) (by_small ((length l.entries == 0) && not l.eof) refl)
          where
            by_small : (b : Bool) → ((length l.entries == 0) && not l.eof) ≡ b
                → Ends (if b then Err TooSmall else Ok (record { begins = begins; attributes = x.attributes; listing = l }))
            by_small true small = page-small small
            by_small false some = page-told some

-- ---- of the trees that may lie below

module _ {S W : Type 0} (told : PairsTold S W) (old mid : S) (cred : Cred) (size : Listed → ℕ) (a : ReadDirArgs (List ℕ))
    (y : Begun) (checked : CheckedOn told old mid IsSound IsBegun (λ t. find_object t a.directory) (Ok y)) where
  abbrev IsFound : Tree → Type 0
  IsFound t = (o : Object) × (find_object t a.directory ≡ Ok o) × IsBegun t y o

  pub find-refused : (status : Status) → Err status ≡ room_for y.found.inode.head.kept cred a.cookie a.verifier a.count
      → CheckedOn told old mid IsSound IsPage (λ t. page t cred size a) (Err (Refused status))
  find-refused status gives =
      reads-more told old mid IsSound IsSound IsFound (λ t. page t cred size a ≡ Err status) (λ t is. is)
      (λ t sound f. page-refused t cred size a y.found f.0 f.1 f.2.object status gives) checked

  module _ (new : S) (before : Goes told old mid 0) (goes : Goes told mid new 0) (room : ℕ) (upper : Place)
      (gives : Ok room ≡ room_for y.found.inode.head.kept cred a.cookie a.verifier a.count)
      (upper-is : upper ≡ above y.found.place y.found.inode.head.kept) where
    placed : (t : Tree) → IsSound t → IsFound t → HasPlace y.found.place t
    placed t sound f = has-found t y.found f.0 sound f.2.object

    pub find-up : (fault : PairFault) → GivesUpOn told mid new (HasPlace y.found.place) fault → GivesUpOn told old new IsSound fault
    find-up fault up = gathers-up told old mid new IsFound (HasPlace y.found.place) goes checked placed 0 before fault up

    module _ (l : Listing) (read : Reads told mid new (HasPlace y.found.place)
        (λ t. IsTold size room a.cookie (lists t y.found.place upper) l)) where
      abbrev IsRead : Tree → Type 0
      IsRead t = IsTold size room a.cookie (lists t y.found.place upper) l

      found-then : (Q : Tree → Type 0)
          → ((t : Tree) (o : Object) → find_object t a.directory ≡ Ok o → IsBegun t y o → IsRead t → Q t)
          → Reads told old new IsSound Q
      found-then Q says =
          reads-more told old new IsSound IsSound (λ t. IsFound t × IsRead t) Q (λ t is. is)
          (λ t sound both. says t both.0.0 both.0.1 both.0.2 both.1)
          (gathers told old mid new IsFound (HasPlace y.found.place) goes checked placed IsRead read)

      pub find-small : (status : Status) → Err status ≡ page_by y.begins y.found.attributes l
          → CheckedOn told old new IsSound IsPage (λ t. page t cred size a) (Err (Refused status))
      find-small status is =
          found-then (λ t. page t cred size a ≡ Err status)
          (λ t o found begun told. page-ends t cred size a y.found o found begun.object room gives upper upper-is y.begins begun.first
          l told (Err status) is)

      pub find-told : (z : Page) → Ok z ≡ page_by y.begins y.found.attributes l
          → CheckedOn told old new IsSound IsPage (λ t. page t cred size a) (Ok z)
      find-told z is =
          found-then (λ t. (p : PageOf) × (page t cred size a ≡ Ok p) × IsPage t z p)
          (λ t o found begun told. page-ends t cred size a y.found o found begun.object room gives upper upper-is y.begins begun.first
          l told (Ok z) is)
