mod Contents
mod Media
