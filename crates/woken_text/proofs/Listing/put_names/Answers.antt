use Rattle.text.specs.Append.{all_append, end_append}
use Rattle.woken_text.specs.Laws.{listed_append}
use Rattle.woken_text.proofs.Listing.put_names.Goals as goal

pub returns-clause-bytes : goal.returns-clause-bytes
returns-clause-bytes c =
    let a = c.put_name-l.ensures in
    let b = c.put_name-l-2.ensures in
    let d = c.put_name-l-3.ensures in
    simp (listed_append, all_append, c.put_links.ensures.bytes, d.bytes, d.next, d.first, b.bytes, b.next, b.first, a.bytes, a.next, a.first)

pub returns-clause-next : goal.returns-clause-next
returns-clause-next c =
    let a = c.put_name-l.ensures in
    let b = c.put_name-l-2.ensures in
    let d = c.put_name-l-3.ensures in
    simp (listed_append, end_append, c.put_links.ensures.next, d.bytes, d.next, d.first, b.bytes, b.next, b.first, a.bytes, a.next, a.first)
