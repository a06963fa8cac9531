mod Adding
mod Going
