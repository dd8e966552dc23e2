-- The row of CREATE, by the room that was found.
use Rattle.std.proofs.Common.{◌≡◌, ◌∙◌, ℕ, ◌<◌, true, false, not, List, length, refl, sym, ap, subst, Option, Some, None, Ok, Err}
use Rattle.std.specs.Prelude.{is_some, ◌&&◌, option_map, IsSomeAnd}
use Rattle.nfs3_types.specs.declared.args.CreateArgs.{CreateArgs}
use Rattle.nfs3_types.specs.declared.args.CreateHow.{CreateHow}
use Rattle.nfs3_types.specs.declared.body.Body.TheVariants.{Create}
use Rattle.nfs3_types.specs.declared.body.CreateOk.{CreateOk}
use Rattle.nfs3_types.specs.declared.cred.Cred.{Cred}
use Rattle.nfs3_types.specs.declared.file_type.FileType.TheVariants.{Reg}
use Rattle.nfs3_types.specs.declared.moment.Moment.{Moment}
use Rattle.nfs3_types.specs.declared.status.Status.{Status}
use Rattle.nfs3_types.specs.declared.status.Status.TheVariants.{Acces, Exist, Inval, NoSpc}
use Rattle.fs_rules.specs.declared.inode.Inode.{Inode as Kept}
use Rattle.fs_rules.specs.declared.name_entry.NameEntry.{NameEntry}
use Rattle.fs_rules.specs.declared.place.Place.{Place}
use Rattle.fs_rules.specs.declared.place.Place.TheVariants.{Live}
use Rattle.fs_rules.specs.declared.plans.CreatePlan.{CreatePlan}
use Rattle.fs_rules.specs.Attributes.{is_directory, is_file, is_too_large}
use Rattle.fs_rules.specs.Checks.{Check, Row, Done, ◌>>=◌, done, find_directory, is_live, need, need_search}
use Rattle.fs_rules.specs.Checks.{refuse_if, some_or}
use Rattle.fs_rules.specs.Making.{create, create_attributes, create_edit, create_plan, give_size, is_reserved, may_reuse}
use Rattle.fs_rules.specs.Making.{need_new_node, new_file, new_plan, plan_by, reuse_plan, size_over, told_of_new}
use Rattle.fs_rules.specs.Limits.{most_numbers}
use Rattle.fs_rules.specs.Places.{Object, entry_at, fileid_at, leads_to}
use Rattle.fs_rules.specs.Rights.{may_write}
use Rattle.fs_rules.specs.Setting.{lacks_cuts}
use Rattle.fs_rules.specs.Sound.{IsSound}
use Rattle.fs_rules.specs.Transfers.{may_fill}
use Rattle.fs_rules.specs.Tree.{Tree, Node, next_fileid}
use Rattle.fs_keys.specs.declared.rows.NameRow.{NameRow}
use Rattle.fs_shows.specs.Nodes.{name_row}
use Rattle.procs_object.specs.declared.object.Found.{Found}
use Rattle.procs_object.specs.Finding.{IsObject, IsPlaceFor}
use Rattle.procs_object.proofs.Told.{object-place}
use Rattle.procs_bytes.proofs.HeldUp.{Resizes}
use Rattle.procs_bytes.proofs.SizeSet.{few-cuts, long-sized}
use Rattle.procs_bytes.proofs.WrittenBack.{node-is, node-file, seen-is, some-of, write-may}
use Rattle.procs_making.specs.declared.room.Room.{Room}
use Rattle.procs_making.specs.Rooms.{IsRoom, name_check, node_check, room_found}
use Rattle.procs_making.proofs.Grouped.{checked-behind, found-then}
use Rattle.procs_making.proofs.MakingRows.{Wanted, plan-in, rest-of, row-of}
use Rattle.procs_making.proofs.Placed.{room-node, room-attributes, map-none}
use Rattle.procs_making.proofs.Sounds.{at-here}
use Rattle.procs_create.specs.Files.{file_check, file_inode}
use Rattle.procs_create.specs.Taking.{MayTake, taken, taken_attributes, taken_check, taken_found, told_taken}
use Rattle.procs_create.proofs.Taken.{told-is}
use Rattle.procs_create.proofs.Zeros.{file-whole}

abbrev pub file-wanted : Cred → CreateArgs (List ℕ) → Moment → ℕ → Wanted
file-wanted cred a now lane = record {
  cred = cred;
  place = a.place;
  now = now;
  lane = lane;
  check = λ directory is_there next. file_check cred a.how directory next;
  making = new_file a.how;
  inode = λ parent. file_inode cred now a.how parent;
  whole = λ parent. file-whole cred now a.how parent;
  body = λ ok. Create ok;
}

-- the plan of a file that is there
abbrev taking : Object → ℕ → Option ℕ → CreatePlan
taking o fileid size = record { directory = fileid_at o.place; fileid = fileid; is_new = false; size = size }

five : {C : Type 0} (a b c d e : Check (Unit {0})) (next : Unit {0} → Check C)
    → (a >>= (λ _. b >>= (λ _. c >>= (λ _. d >>= (λ _. e >>= next)))))
    ≡ ((a >>= (λ _. b >>= (λ _. c >>= (λ _. d >>= (λ _. e))))) >>= next)
five (Err status) b c d e next = refl
five (Ok u) (Err status) c d e next = refl
five (Ok u) (Ok v) (Err status) d e next = refl
five (Ok u) (Ok v) (Ok w) (Err status) e next = refl
five (Ok u) (Ok v) (Ok w) (Ok x) e next = refl

-- the checks of a file that is there
led : (cred : Cred) (how : CreateHow) (plan : CreatePlan) (l : Option Object)
    → (some_or l Exist >>= (λ file. need (is_file file.inode.kind) Exist >>= (λ _. need (may_reuse how file.inode) Exist
    >>= (λ _. refuse_if (is_some (size_over how) && not (may_fill cred file.inode)) Acces
    >>= (λ _. refuse_if (is_too_large (size_over how)) Inval >>= (λ _. refuse_if (lacks_cuts (size_over how) file) NoSpc
    >>= (λ _. Ok plan)))))))
    ≡ ((some_or l Exist >>= (λ file. taken_check cred how file.inode file.size >>= (λ _. Ok file))) >>= (λ file. Ok plan))
unfolding taken_check
led cred how plan (Some file) =
    five (need (is_file file.inode.kind) Exist) (need (may_reuse how file.inode) Exist)
    (refuse_if (is_some (size_over how) && not (may_fill cred file.inode)) Acces) (refuse_if (is_too_large (size_over how)) Inval)
    (refuse_if (lacks_cuts (size_over how) file) NoSpc) (λ _. Ok plan)
    ∙ sym (checked-behind (taken_check cred how file.inode file.size) (λ _. Ok file) (λ file. Ok plan))
led cred how plan None = refl

reuse-is : (t : Tree) (cred : Cred) (o : Object) (e : NameEntry) (how : CreateHow)
    → reuse_plan t cred o e how ≡ (taken_found t cred how e.fileid >>= (λ file. Ok (taking o e.fileid (size_over how))))
unfolding reuse_plan taken_found
reuse-is t cred o e how = led cred how (taking o e.fileid (size_over how)) (leads_to t (Live e.fileid))

-- an entry of this row leads to the row's file
entry-is : (o : Option NameEntry) (r : NameRow) → option_map name_row o ≡ Some r
    → (e : NameEntry) × (o ≡ Some e) × (e.fileid ≡ r.fileid)
entry-is (Some e) r is =
    let same : name_row e ≡ r = cc in
    (e, refl, ap (λ (r : NameRow). r.fileid) same)
entry-is None r is = absurd (cc)

-- ---- the row

module _ (cred : Cred) (a : CreateArgs (List ℕ)) (now : Moment) (lane : ℕ) (t : Tree) where
  abbrev by_entry : Object → Check CreatePlan
  by_entry o = plan_by t cred o (entry_at t o.place a.place.name) a.how lane

  -- what follows in the table once the place is checked
  abbrev steps : Object → Check CreatePlan
  steps o = need_search cred o >>= (λ _. refuse_if (is_reserved o a.place.name) Exist >>= (λ _. by_entry o))

  steps-are : (o : Object) → steps o ≡ (name_check cred o a.place.name >>= (λ u. by_entry o))
  unfolding name_check
  steps-are o = sym (checked-behind (need_search cred o) (λ _. refuse_if (is_reserved o a.place.name) Exist) (λ u. by_entry o))

  planned : create_plan t cred a lane ≡ (room_found t cred a.place >>= by_entry)
  unfolding create_plan room_found
  planned = found-then (find_directory t a.place) (λ o. name_check cred o a.place.name) steps by_entry steps-are

  abbrev finish : Check CreatePlan → Row
  finish plan =
      done plan (create_edit t cred a now lane)
      (λ plan after. Create (told_of_new t after (Live plan.directory) (Live plan.fileid)))

  row-is : create t cred a now lane ≡ finish (room_found t cred a.place >>= by_entry)
  unfolding create
  row-is = ap finish planned

  pub file-halts : (status : Status) → room_found t cred a.place ≡ Err status → create t cred a now lane ≡ Err status
  file-halts status refused = row-is ∙ ap (λ (c : Check Object). finish (c >>= by_entry)) refused

  module _ (x : Room) (o : Object) (found : room_found t cred a.place ≡ Ok o) (room : IsRoom a.place.name lane t x o) where
    at-entry : (e : Option NameEntry) → entry_at t o.place a.place.name ≡ e
        → create t cred a now lane ≡ finish (plan_by t cred o e a.how lane)
    at-entry e is =
        row-is ∙ ap (λ (c : Check Object). finish (c >>= by_entry)) found
        ∙ ap (λ (e : Option NameEntry). finish (plan_by t cred o e a.how lane)) is

    -- ---- the name is not there

    abbrev fresh : CreatePlan
    fresh = record { directory = fileid_at o.place; fileid = next_fileid t lane; is_new = true; size = None }

    new-is : new_plan t cred o a.how lane ≡ (file_check cred a.how o.inode (next_fileid t lane) >>= (λ u. Ok fresh))
    unfolding new_plan need_new_node file_check node_check
    new-is =
        sym (checked-behind (need (may_write cred o.inode) Acces)
        (λ _. need_new_node t cred lane o.inode Reg (create_attributes a.how)) (λ u. Ok fresh))

    finishes : (c : Check (Unit {0})) → finish (c >>= (λ u. Ok fresh))
        ≡ row-of (file-wanted cred a now lane) t (c >>= (λ u. plan-in (file-wanted cred a now lane) t o))
    unfolding create_edit
    finishes (Ok u) = refl
    finishes (Err status) = refl

    pub file-goes_on : x.entry ≡ None
        → create t cred a now lane ≡ row-of (file-wanted cred a now lane) t (rest-of (file-wanted cred a now lane) t o)
    file-goes_on free =
        at-entry None (map-none name_row (entry_at t o.place a.place.name) (room.entry ∙ free))
        ∙ ap finish new-is ∙ finishes (file_check cred a.how o.inode (next_fileid t lane))

    -- ---- it is

    module _ (r : NameRow) (is : x.entry ≡ Some r) (id : ℕ) (own : id ≡ r.fileid) where
      abbrev plan-of : Object → Check CreatePlan
      plan-of file = Ok (taking o id (size_over a.how))

      found-entry : (e : NameEntry) × (entry_at t o.place a.place.name ≡ Some e) × (e.fileid ≡ id)
      found-entry =
          let e = entry-is (entry_at t o.place a.place.name) r (room.entry ∙ is) in (e.0, e.1, e.2 ∙ sym own)

      taken-row : create t cred a now lane ≡ finish (taken_found t cred a.how id >>= plan-of)
      taken-row =
          at-entry (Some found-entry.0) found-entry.1 ∙ ap finish (reuse-is t cred o found-entry.0 a.how)
          ∙ ap (λ (i : ℕ). finish (taken_found t cred a.how i >>= (λ file. Ok (taking o i (size_over a.how))))) found-entry.2

      -- a check refuses
      pub taken-halts : (status : Status) → taken_found t cred a.how id ≡ Err status
          → create t cred a now lane ≡ Err status
      taken-halts status refused = taken-row ∙ ap (λ (c : Check Object). finish (c >>= plan-of)) refused

      module _ (place : IsPlaceFor a.place.name x.directory) (y : Found) (file : Object)
          (given : taken_found t cred a.how id ≡ Ok file) (object : IsObject t y file) (stands : y.place ≡ Live id)
          (kind : is_file y.inode.head.kept.kind ≡ true) where
        live : is_live y.place ≡ true
        live = ap (λ (p : Place). is_live p) stands

        id-is : id ≡ fileid_at y.place
        id-is = sym (ap (λ (p : Place). fileid_at p) stands)

        kind-there : is_directory room.object.node.inode.kind ≡ true
        kind-there = ap (λ (k : Kept). is_directory k.kind) (sym room.object.inode.kept) ∙ place.directory

        abbrev pub done-of : Option ℕ → Row
        done-of size = Ok (record {
          body = Create (told_taken x.directory.attributes id (taken_attributes size now y.attributes));
          tree = taken id size now t;
        })

        edited : create_edit t cred a now lane (taking o id (size_over a.how)) ≡ taken id (size_over a.how) now t
        unfolding create_edit
        edited = refl

        done-over : create t cred a now lane ≡ done-of (size_over a.how)
        done-over =
            taken-row ∙ ap (λ (c : Check Object). finish (c >>= plan-of)) given
            ∙ ap (λ (after : Tree). let d : Done = record {
              body = Create (told_of_new t after (Live (fileid_at o.place)) (Live id));
              tree = after;
            } in Ok d) edited
            ∙ ap (λ (p : Place). let d : Done = record {
              body = Create (told_of_new t (taken id (size_over a.how) now t) (Live (fileid_at p)) (Live id));
              tree = taken id (size_over a.how) now t;
            } in Ok d) (object-place t x.directory o room.object)
            ∙ ap (λ (c : CreateOk). let d : Done = record { body = Create c; tree = taken id (size_over a.how) now t } in Ok d)
            (told-is t (fileid_at x.directory.place) id x.directory.attributes y.attributes room.object.node object.node
            (room-node a.place.name lane t x o room place) kind-there (room-attributes a.place.name lane t x o room place)
            (node-is t y file object id kind live id-is) (node-file t y file object id kind live id-is)
            (seen-is t y file object id kind live id-is) (size_over a.how) now)

        module _ (size : Option ℕ) (same : size ≡ size_over a.how) where
          -- it is taken, and told of
          pub taken-done : create t cred a now lane ≡ done-of size
          taken-done = subst (λ (z : Option ℕ). create t cred a now lane ≡ done-of z) (sym same) done-over

          -- its size is another one
          pub taken-resizes : (s : ℕ) → size ≡ Some s → Resizes id s (create t cred a now lane) t
          taken-resizes s sized =
              let n : Node = object.node in
              record {
                done = record {
                  body = Create (told_taken x.directory.attributes id (taken_attributes size now y.attributes));
                  tree = taken id size now t;
                };
                is = taken-done;
                before = n;
                was = node-is t y file object id kind live id-is;
                file = node-file t y file object id kind live id-is;
                after = give_size size now n;
                becomes = at-here id (give_size size now) t n (node-is t y file object id kind live id-is);
                long = ap (λ (z : Option ℕ). length (give_size z now n).content) sized ∙ long-sized s n;
              }

        -- it may be sized
        pub taken-may : IsSound t → (size : Option ℕ) → MayTake id size t
        taken-may sound None = tt
        taken-may sound (Some s) = record {
          fill = write-may t y file object id kind live id-is sound;
          cuts = cut-few;
        }
          where
            there : t.nodes id ≡ Some object.node
            there = node-is t y file object id kind live id-is

            cut-few : IsSomeAnd (t.nodes id) (λ n. n.inode.cuts < most_numbers)
            cut-few =
                subst (λ (o : Option Node). IsSomeAnd o (λ n. n.inode.cuts < most_numbers)) (sym there)
                (some-of (λ n. n.inode.cuts < most_numbers) (t.nodes id) object.node there
                (few-cuts id (t.nodes id) (sound.bounds.live.each id)))
