use Rattle.std.proofs.Common.{refl, subst}
use Rattle.nfs3_types.specs.declared.body.Body.{Body}
use Rattle.nfs3_types.specs.declared.body.Body.TheVariants.{Lookup, ReadLink, Read, Create, Mkdir, Symlink, ReadDir, ReadDirPlus}
use Rattle.nfs3_types.specs.Replies.{lookup_ok, read_link_ok, read_ok, create_ok, read_dir_ok, read_dir_plus_ok, lookup_in}
use Rattle.nfs3_types.specs.Replies.{read_link_in, read_in, create_in, mkdir_in, symlink_in, read_dir_in, read_dir_plus_in}
use Rattle.nfs3_types.specs.Replies.{ok_body, said_by}
use Rattle.nfs3_res.proofs.Bodies.{in_case_fits}
use Rattle.nfs3_res.proofs.putting.put_body.Goals as goal

pub put_lookup-requires : goal.put_lookup-requires
unfolding ok_body
put_lookup-requires c = in_case_fits Lookup lookup_in lookup_ok c.in-Lookup.ok (λ x. refl)
    (subst (λ (b : Body). (ok_body (said_by b)).Fits b) c.in-Lookup.is c.requires)

pub put_read_link-requires : goal.put_read_link-requires
unfolding ok_body
put_read_link-requires c = in_case_fits ReadLink read_link_in read_link_ok c.in-ReadLink.ok (λ x. refl)
    (subst (λ (b : Body). (ok_body (said_by b)).Fits b) c.in-ReadLink.is c.requires)

pub put_read-requires : goal.put_read-requires
unfolding ok_body
put_read-requires c = in_case_fits Read read_in read_ok c.in-Read.ok (λ x. refl)
    (subst (λ (b : Body). (ok_body (said_by b)).Fits b) c.in-Read.is c.requires)

pub put_create-requires : goal.put_create-requires
unfolding ok_body
put_create-requires c = in_case_fits Create create_in create_ok c.in-Create.ok (λ x. refl)
    (subst (λ (b : Body). (ok_body (said_by b)).Fits b) c.in-Create.is c.requires)

pub put_create-requires-in-Mkdir : goal.put_create-requires-in-Mkdir
unfolding ok_body
put_create-requires-in-Mkdir c = in_case_fits Mkdir mkdir_in create_ok c.in-Mkdir.ok (λ x. refl)
    (subst (λ (b : Body). (ok_body (said_by b)).Fits b) c.in-Mkdir.is c.requires)

pub put_create-requires-in-Symlink : goal.put_create-requires-in-Symlink
unfolding ok_body
put_create-requires-in-Symlink c = in_case_fits Symlink symlink_in create_ok c.in-Symlink.ok (λ x. refl)
    (subst (λ (b : Body). (ok_body (said_by b)).Fits b) c.in-Symlink.is c.requires)

pub put_read_dir-requires : goal.put_read_dir-requires
unfolding ok_body
put_read_dir-requires c = in_case_fits ReadDir read_dir_in read_dir_ok c.in-ReadDir.ok (λ x. refl)
    (subst (λ (b : Body). (ok_body (said_by b)).Fits b) c.in-ReadDir.is c.requires)

pub put_read_dir_plus-requires : goal.put_read_dir_plus-requires
unfolding ok_body
put_read_dir_plus-requires c = in_case_fits ReadDirPlus read_dir_plus_in read_dir_plus_ok c.in-ReadDirPlus.ok (λ x. refl)
    (subst (λ (b : Body). (ok_body (said_by b)).Fits b) c.in-ReadDirPlus.is c.requires)
